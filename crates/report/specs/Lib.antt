pub mod ByCodes
