-- Lists of bytes. `Bytes`, `Pieces` and `Places` are what a reader must believe; `Inner` has what only inner contracts cite.
pub mod Bytes
pub mod Pieces
pub mod Places
pub mod Inner
