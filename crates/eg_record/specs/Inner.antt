pub mod RowMore
