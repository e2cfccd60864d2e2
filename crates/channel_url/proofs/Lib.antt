mod DigitLemmas
mod BaseLemmas
mod ApartLemmas
