-- Laws over plain numbers, which the function's proof cites.
pub mod RoundLaws
