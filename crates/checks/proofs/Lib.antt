-- Laws of the checks, for this crate's proofs and those of the crates above.
pub mod FollowLaws
pub mod WidthLaws
pub mod ClearLaws
pub mod JustifiedLaws
pub mod RoomLaws
pub mod RecordLaws
pub mod RowLaws
