-- Laws: what deductions carry out as executions over the places of a record; tables of masks; their passes; the operation's outcomes.
pub mod Spending
pub mod Places
pub mod Marks
pub mod Turning
pub mod Outcomes
pub mod Laws
pub mod EachTested
