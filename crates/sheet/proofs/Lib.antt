-- Laws of the definitions, for this crate's proofs and those of the crates above.
pub mod Results
pub mod AcceptedLines
pub mod LaterLines
pub mod Valid
pub mod ValidSheets
pub mod Acceptance
pub mod Decoding
pub mod DecodedSheets
pub mod RefusalNumbers
pub mod ResultWords
pub mod ResultAccepted
pub mod ResultDecoded
pub mod Spans
pub mod FluentsKept
pub mod FluentNames
pub mod Drills
