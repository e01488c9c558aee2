pub mod CornersRead
pub mod MeasureRead
