pub mod UnreadLemmas
pub mod FieldLemmas
pub mod RowsLemmas
pub mod FileLaws
pub mod Seen
pub mod CursorLemmas
pub mod LineOfNumbers
pub mod LineLemmas
pub mod WordLemmas
pub mod WritesLemmas
pub mod ImageLaws
pub mod DecimalLemmas
pub mod NumbersLemmas
pub mod AnswerLemmas
pub mod LengthLaws
mod Worked
mod WorkedLines
