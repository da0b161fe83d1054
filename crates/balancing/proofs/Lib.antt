-- Parts: what a run leaves in the first words of the tables, told of the whole tables. Alike: tables of the same rows. PutAside: tables put aside,
-- compared and given back. GoodRows: tables that are balanced meet no 42, and those that meet none may be put aside. OwnLimits: a party's own rows
-- against its limits. Judged: what is found makes the tables as kept, or not.
pub mod Parts
pub mod Alike
pub mod PutAside
pub mod GoodRows
pub mod OwnLimits
pub mod Judged
