pub mod RowLaws
pub mod HalvingLaws
pub mod MergingLaws
pub mod FormLaws
