-- Joint: the roots of one or two goals, and what is left where the tables are filled from them.
pub mod Joint
