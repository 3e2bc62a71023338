-- What only the contracts below the calls cite: nothing here has to be believed by a reader of the promises.
pub mod Given
pub mod Naming
pub mod Reading
