-- Left: what a run needs of the words kept, and what it leaves. Reply: a run's buffers and what it gives, in the words of `Shared`.
pub mod Left
pub mod Reply
