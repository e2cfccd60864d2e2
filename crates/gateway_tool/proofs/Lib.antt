mod LeadLemmas
mod TextLemmas
mod ClosureLemmas
mod WordLemmas
mod AnswerLemmas
mod ServeLemmas
