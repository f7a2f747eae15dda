pub mod GivenAgain
