-- Parties: what is kept beside the tables of two parties. Charged: the rows that they hold, and when the tables are as kept (90 and 91). Shared:
-- what an opening and a run give and leave. SharedPath: what the path of a shared record gives and leaves.
pub mod Parties
pub mod Charged
pub mod Shared
pub mod SharedPath
