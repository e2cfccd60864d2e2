-- Lines that are answered one after another.
use Rattle.std.proofs.Common.{◌≡◌, ℕ, ◌+◌, List, [], ◌∷◌, ◌++◌, Bool, true, false, ◌||◌, Option, Some, None, IfSome, Ok, Err, refl, sym, ap, ◌∙◌, subst, append_assoc, append-nil}
use Rattle.channel_store.specs.Store.{Files}
use Rattle.store_closure.specs.declared.stop.BadFile.{BadFile}
use Rattle.store_closure.specs.Asked.{Asked}
use Rattle.store_closure.specs.Lines.{End, LineEnd, LinesEnd, behind, no_line, one_line, first_stop}
use Rattle.store_closure.specs.Puts.{PutsLine}

-- or, of three
or_assoc : (a b c : Bool) → ((a || b) || c) ≡ (a || (b || c))
or_assoc true b c = refl
or_assoc false b c = refl

or_none : (a : Bool) → (a || false) ≡ a
or_none true = refl
or_none false = refl

-- the end with a text
abbrev ended : List ℕ → Bool → End
ended text was = Ok (text, was)

-- a text behind a text
behind_behind : (text more : List ℕ) (was this : Bool) (end : End) → behind text was (behind more this end) ≡ behind (text ++ more) (was || this) end
behind_behind text more was this (Ok rest) =
    ap (λ (t : List ℕ). ended t (was || (this || rest.1))) (sym (append_assoc text more rest.0))
    ∙ ap (ended ((text ++ more) ++ rest.0)) (sym (or_assoc was this rest.1))
behind_behind text more was this (Err bad) = refl

-- nothing before
behind_none : (end : End) → behind [] false end ≡ end
behind_none (Ok rest) = refl
behind_none (Err bad) = refl

-- whatever the end of the lines that are left is, so far a text stands before it
abbrev pub SoFar : Option Files → Asked → List (List ℕ) → ℕ → List (List ℕ) → List ℕ → Bool → Type 0
SoFar files a all number left text was =
    IfSome files (λ told. (end : End) → LinesEnd told a number left end → LinesEnd told a 1 all (behind text was end))

module _ (a : Asked) (all : List (List ℕ)) where
  pub begins : (files : Option Files) → SoFar files a all 1 all [] false
  begins None = tt
  begins (Some told) = λ end on. subst (LinesEnd told a 1 all) (sym (behind_none end)) on

  module _ (number : ℕ) (left : List (List ℕ)) (text : List ℕ) (was : Bool) where
    pub over : (files : Option Files) → SoFar files a all number left text was → left ≡ []
        → IfSome files (λ told. LinesEnd told a 1 all (Ok (text, was)))
    over None so none = tt
    over (Some told) so none =
        let whole = so (Ok ([], false)) (subst (λ (ls : List (List ℕ)). LinesEnd told a number ls (Ok ([], false))) (sym none) (no_line number)) in
        subst (LinesEnd told a 1 all) (ap (λ (t : List ℕ). ended t (was || false)) (append-nil text) ∙ ap (ended text) (or_none was)) whole

    module _ (line : List ℕ) (rest : List (List ℕ)) (first : left ≡ line ∷ rest) where
      pub goes : (files : Option Files) (new : List ℕ) (this : Bool) → SoFar files a all number left text was
          → IfSome files (λ told. PutsLine told a number line text new this) → SoFar files a all (number + 1) rest new (was || this)
      goes None new this so puts = tt
      goes (Some told) new this so puts = λ end on.
          let whole = so (behind puts.text this end) (subst (λ (ls : List (List ℕ)). LinesEnd told a number ls (behind puts.text this end)) (sym first) (one_line number line rest puts.text this end puts.ends on)) in
          subst (LinesEnd told a 1 all) (behind_behind text puts.text was this end ∙ ap (λ (t : List ℕ). behind t (was || this) end) (sym puts.put)) whole

      pub halts : (files : Option Files) (bad : BadFile) → SoFar files a all number left text was
          → IfSome files (λ told. LineEnd told a number line (Err bad)) → IfSome files (λ told. LinesEnd told a 1 all (Err bad))
      halts None bad so stop = tt
      halts (Some told) bad so stop =
          so (Err bad) (subst (λ (ls : List (List ℕ)). LinesEnd told a number ls (Err bad)) (sym first) (first_stop number line rest bad stop))

      -- the same over files that are those of the start
      module _ (files now : Option Files) (same : now ≡ files) (so : SoFar files a all number left text was) where
        pub goes_from : (new : List ℕ) (this : Bool) → IfSome now (λ told. PutsLine told a number line text new this) → SoFar files a all (number + 1) rest new (was || this)
        goes_from new this puts = goes files new this so (subst (λ (fs : Option Files). IfSome fs (λ told. PutsLine told a number line text new this)) same puts)

        pub halts_from : (bad : Option BadFile) → IfSome bad (λ b. IfSome now (λ told. LineEnd told a number line (Err b)))
            → IfSome bad (λ b. IfSome files (λ told. LinesEnd told a 1 all (Err b)))
        halts_from None stop = tt
        halts_from (Some b) stop = halts files b so (subst (λ (fs : Option Files). IfSome fs (λ told. LineEnd told a number line (Err b))) same stop)
