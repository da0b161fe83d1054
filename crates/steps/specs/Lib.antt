-- What a reader must believe of states, steps and runs, each file a paragraph or two of document 01:
-- State, Step, Deduction, Run and Counting are the logic; Widths, Words and Acceptance the words lent; Elementary the one elementary step of
-- the code.
pub mod State
pub mod Step
pub mod Deduction
pub mod Run
pub mod Counting
pub mod Widths
pub mod Words
pub mod Acceptance
pub mod Elementary
-- What only inner contracts and laws cite. Kinds: the kinds of steps as the code has them. Next: the code's answer to an elementary step.
-- Inner: what they say in one word.
pub mod Kinds
pub mod Next
pub mod Inner
