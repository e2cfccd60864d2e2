-- A read behind others: what is known of all of them.
use Rattle.std.proofs.Common.{◌≡◌, ℕ, ◌+◌, ◌<◌, ◌≤◌, Option, IfSome, List, ◌++◌, length, take, ◌∙◌, ap, subst, arith, length-append, append-nil}
use Rattle.std.proofs.lemmas.List.{length-take-le}
use Rattle.std.specs.Io.KnownBytes.{prepend_known}
use Rattle.link_io.specs.Source.{Reads}
use Rattle.link_io.specs.Transfer.{LosesAtMost}
use Rattle.link_io.proofs.ToldLemmas.{reads-on, whole-read, longer-left}

-- the front was read, and then a piece into a buffer
module _ (old mid new : Option (List ℕ)) (front buffer : List ℕ) (count : ℕ) (before : old ≡ prepend_known front mid) (now : Reads mid new count buffer) where
  size : length (front ++ take count buffer) ≡ length front + count
  size = omega (arith, length-append front (take count buffer), length-take-le count buffer now.within)

  -- the two together
  pub both-read : old ≡ prepend_known (front ++ take count buffer) new
  both-read = reads-on old mid new front (take count buffer) before now.bytes

  -- a piece of no bytes means that the front was all
  pub all-read : count ≡ 0 → IfSome old (λ left. front ≡ left)
  all-read none =
      let nothing : front ++ take count buffer ≡ front = ap (λ (n : ℕ). front ++ take n buffer) none ∙ append-nil front in
      subst (λ (l : List ℕ). IfSome old (λ left. l ≡ left)) nothing (whole-read old new (front ++ take count buffer) both-read (now.end none))

  -- no more is gone than the two
  pub loses-both : (limit : ℕ) → length front + count ≤ limit → LosesAtMost limit old new
  loses-both limit fits = record { front = front ++ take count buffer; within = omega (arith, size); bytes = both-read }

  -- more was left than the limit where the two are more
  pub more-left : (limit : ℕ) → limit < length front + count → IfSome old (λ left. limit < length left)
  more-left limit long = longer-left limit old new (front ++ take count buffer) both-read (omega (arith, size))

-- no more is gone than the front
pub loses-front : (limit : ℕ) (old new : Option (List ℕ)) (front : List ℕ) → old ≡ prepend_known front new → length front ≤ limit → LosesAtMost limit old new
loses-front limit old new front split fits = record { front = front; within = fits; bytes = split }
