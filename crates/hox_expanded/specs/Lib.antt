pub mod Description
