-- Laws of tables told off against each other: rows, flags, what flags leave of the tables of a run, and tables that hold exactly some rows.
pub mod Pairs
pub mod FlagLaws
pub mod RunLaws
pub mod SameRows
