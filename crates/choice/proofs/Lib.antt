-- Named: that a row names only variables that there are has one proof at most.
pub mod Named
