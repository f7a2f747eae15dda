pub mod RecordSlice
pub mod ReadBack
