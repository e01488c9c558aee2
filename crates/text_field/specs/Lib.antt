pub mod FieldText
