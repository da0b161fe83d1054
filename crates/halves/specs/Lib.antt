-- Cut: the halves of a goal, and what is shown of their ends and refusals.
pub mod Cut
