pub mod SqlKeeper
