-- What an axes grid's judge keeps of the bins that it has tried.
pub mod Tried
