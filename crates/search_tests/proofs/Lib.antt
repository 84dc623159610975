pub mod TwoDispatches
