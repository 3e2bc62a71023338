-- What only the contracts below the call cite: nothing here has to be believed by a reader of the promise.
pub mod Parts
