-- Laws across operations: what the evaluator leaves, the path shows and a lookup finds; what a class run leaves, the report takes; ends of a sheet
-- are ends of a merged one.
pub mod PathLaws
pub mod LookupLaws
pub mod ReportLaws
pub mod MergeLaws
