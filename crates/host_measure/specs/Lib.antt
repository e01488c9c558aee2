pub mod MeasureText
