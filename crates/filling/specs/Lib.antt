-- Others: the bodies of other actions.
pub mod Others
