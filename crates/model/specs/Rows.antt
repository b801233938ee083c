-- What the definitions give for worked examples; the checker computes each row.
pub mod Rows
pub mod RowsOfWords
pub mod RowsOfRecords
pub mod RowsOfHeaders
pub mod RowsOfText
pub mod RowsOfAccess
pub mod RowsOfUnmaps
pub mod RowsOfClears
pub mod RowsOfOutcomes
pub mod RowsOfMaps
pub mod RowsOfGrants
pub mod RowsOfHoldings
pub mod RowsOfRecursion
pub mod RowsOfChanges
