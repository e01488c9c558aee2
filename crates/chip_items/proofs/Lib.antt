pub mod Tests
pub mod NetTests
pub mod ItemsTests
