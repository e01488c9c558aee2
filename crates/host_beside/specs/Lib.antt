pub mod CodeBeside
