pub mod Laying
pub mod Filling
pub mod Long
pub mod Theorems
pub mod Cases
