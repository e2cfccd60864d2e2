-- A run has one end, and lines have one.
use Rattle.std.proofs.Common.{◌≡◌, ℕ, zero, suc, ◌+◌, List, [], ◌∷◌, Bool, true, false, Option, Some, None, Result, Ok, Err, refl, sym, ap, ◌∙◌, subst, true≢false, arith}
use Rattle.std.specs.Prelude.{◌&&◌, not, cond}
use Rattle.std.specs.List.{list_all, find}
use Rattle.gateway_words.specs.Reading.{◌>>=◌}
use Rattle.channel_store.specs.Store.{Files}
use Rattle.closure_request.specs.Request.{Asking}
use Rattle.closure_request.specs.declared.refusal.RequestRefusal.{RequestRefusal}
use Rattle.closure_plan.specs.Given.{Pins, LeafRows}
use Rattle.closure_plan.specs.Needs.{Wish, is_given, is_askable, needs}
use Rattle.closure_plan.specs.Closure.{Found, closure}
use Rattle.answer_text.specs.Answers.{answer_text, refused_line}
use Rattle.store_closure.specs.declared.stop.BadFile.{BadFile}
use Rattle.store_closure.specs.Asked.{Asked, request_in}
use Rattle.store_closure.specs.Runs.{Taken, with_next, step, after, ComesTo, IsAnswer, StopsAt}
use Rattle.store_closure.specs.Lines.{End, LineEnd, LinesEnd, behind, numbers_of, line_refused, line_answered, line_stopped, no_line, one_line, first_stop}

-- ---- runs

-- so many more
abbrev plus : ℕ → ℕ → ℕ
plus zero k = k
plus (suc j) k = suc (plus j k)

plus_is : (j k : ℕ) → plus j k ≡ j + k
plus_is zero k = omega arith
plus_is (suc j) k = omega (arith, plus_is j k)

plus_swap : (j k : ℕ) → plus j k ≡ plus k j
plus_swap j k = omega (arith, plus_is j k, plus_is k j)

-- nothing changes an end
abbrev IsLast : Files → Asking → Result Taken BadFile → Type 0
IsLast told r end = (end >>= step told r) ≡ end

module _ (told : Files) (r : Asking) where
  stays : (k j : ℕ) (end : Result Taken BadFile) → IsLast told r end → after told r k ≡ end → after told r (plus j k) ≡ end
  stays k zero end last is = is
  stays k (suc j) end last is = ap (λ (x : Result Taken BadFile). x >>= step told r) (stays k j end last is) ∙ last

  one_end : (end other : Result Taken BadFile) → IsLast told r end → IsLast told r other → ComesTo told r end → ComesTo told r other → end ≡ other
  one_end end other last late so also =
      sym (stays so.count also.count end last so.run) ∙ ap (after told r) (plus_swap also.count so.count) ∙ stays also.count so.count other late also.run

  -- where each need is given there is no next one
  nothing_next : (pins : Pins) (leaves : List LeafRows) (ws : List Wish) → list_all (is_given pins leaves) ws ≡ true → find (is_askable r pins leaves []) ws ≡ None
  nothing_next pins leaves [] all = refl
  nothing_next pins leaves (w ∷ ws) all = go (is_given pins leaves w) (list_all (is_given pins leaves) ws) all (nothing_next pins leaves ws)
    where
      go : (b c : Bool) → (b && c) ≡ true → (c ≡ true → find (is_askable r pins leaves []) ws ≡ None)
          → cond (not b && true) (Some w) (find (is_askable r pins leaves []) ws) ≡ None
      go true c both rest = rest both
      go false c both rest = absurd (true≢false (sym both))

  whole_is_last : (t : Taken) → list_all (is_given t.pins t.leaves) (needs r t.pins t.leaves) ≡ true → IsLast told r (Ok t)
  whole_is_last t whole = ap (with_next told r t) (nothing_next t.pins t.leaves (needs r t.pins t.leaves) whole)

  -- an answer has its rows, and there is no bad file where there is an answer
  one_answer : (rows others : List Found) → IsAnswer told r rows → IsAnswer told r others → rows ≡ others
  one_answer rows others a b =
      let same : ◌≡◌ {A = Result Taken BadFile} (Ok a.taken) (Ok b.taken) = one_end (Ok a.taken) (Ok b.taken) (whole_is_last a.taken a.whole) (whole_is_last b.taken b.whole) a.run b.run in
      let taken : a.taken ≡ b.taken = cc in
      a.are ∙ ap (λ (t : Taken). closure r t.pins t.leaves) taken ∙ sym b.are

  one_stop : (bad other : BadFile) → StopsAt told r bad → StopsAt told r other → bad ≡ other
  one_stop bad other a b =
      let same : ◌≡◌ {A = Result Taken BadFile} (Err bad) (Err other) = one_end (Err bad) (Err other) refl refl a b in
      cc

  not_both : (rows : List Found) (bad : BadFile) → IsAnswer told r rows → StopsAt told r bad → ⊥
  not_both rows bad a b =
      let same : ◌≡◌ {A = Result Taken BadFile} (Ok a.taken) (Err bad) = one_end (Ok a.taken) (Err bad) (whole_is_last a.taken a.whole) refl a.run b in
      cc

-- ---- lines

-- the ends of a line, by what they are made of
abbrev refused_end : ℕ → ℕ × ℕ → End
refused_end number p = Ok (refused_line number p.0 p.1, true)

abbrev answered_end : ℕ → List Found → End
answered_end number rows = Ok (answer_text number rows, false)

abbrev stopped_end : BadFile → End
stopped_end bad = Err bad

module _ (told : Files) (a : Asked) where
  same_request : (line : List ℕ) (r s : Asking) → request_in a line ≡ Ok r → request_in a line ≡ Ok s → r ≡ s
  same_request line r s x y =
      let same : ◌≡◌ {A = Result Asking RequestRefusal} (Ok r) (Ok s) = sym x ∙ y in
      cc

  same_refusal : (line : List ℕ) (e f : RequestRefusal) → request_in a line ≡ Err e → request_in a line ≡ Err f → e ≡ f
  same_refusal line e f x y =
      let same : ◌≡◌ {A = Result Asking RequestRefusal} (Err e) (Err f) = sym x ∙ y in
      cc

  not_refused : (line : List ℕ) (r : Asking) (e : RequestRefusal) → request_in a line ≡ Ok r → request_in a line ≡ Err e → ⊥
  not_refused line r e x y =
      let same : ◌≡◌ {A = Result Asking RequestRefusal} (Ok r) (Err e) = sym x ∙ y in
      cc

  pub line_has_one_end : (number : ℕ) (line : List ℕ) (end other : End) → LineEnd told a number line end → LineEnd told a number line other → end ≡ other
  line_has_one_end number line _ _ (line_refused e spec fault x n) (line_refused d s f y m) =
      let both : ◌≡◌ {A = Option (ℕ × ℕ)} (Some (spec, fault)) (Some (s, f)) = sym n ∙ ap numbers_of (same_refusal line e d x y) ∙ m in
      let pair : ◌≡◌ {A = ℕ × ℕ} (spec, fault) (s, f) = cc in
      ap (refused_end number) pair
  line_has_one_end number line _ _ (line_refused e spec fault x n) (line_answered r rows y b) = absurd (not_refused line r e y x)
  line_has_one_end number line _ _ (line_refused e spec fault x n) (line_stopped r bad y b) = absurd (not_refused line r e y x)
  line_has_one_end number line _ _ (line_answered r rows x b) (line_refused e spec fault y n) = absurd (not_refused line r e x y)
  line_has_one_end number line _ _ (line_answered r rows x b) (line_answered s others y c) =
      ap (answered_end number)
      (one_answer told r rows others b (subst (λ (q : Asking). IsAnswer told q others) (same_request line s r y x) c))
  line_has_one_end number line _ _ (line_answered r rows x b) (line_stopped s bad y c) =
      absurd (not_both told r rows bad b (subst (λ (q : Asking). StopsAt told q bad) (same_request line s r y x) c))
  line_has_one_end number line _ _ (line_stopped r bad x b) (line_refused e spec fault y n) = absurd (not_refused line r e x y)
  line_has_one_end number line _ _ (line_stopped r bad x b) (line_answered s rows y c) =
      absurd (not_both told r rows bad (subst (λ (q : Asking). IsAnswer told q rows) (same_request line s r y x) c) b)
  line_has_one_end number line _ _ (line_stopped r bad x b) (line_stopped s other y c) =
      ap stopped_end (one_stop told r bad other b (subst (λ (q : Asking). StopsAt told q other) (same_request line s r y x) c))

  pub lines_have_one_end : (number : ℕ) (lines : List (List ℕ)) (end other : End) → LinesEnd told a number lines end → LinesEnd told a number lines other → end ≡ other
  lines_have_one_end number [] _ _ (no_line n) (no_line m) = refl
  lines_have_one_end number (line ∷ rest) _ _ (one_line n l ls text was_refused end one on) (one_line m k ks words was other also so) =
      let first : ◌≡◌ {A = End} (Ok (text, was_refused)) (Ok (words, was)) = line_has_one_end number line (Ok (text, was_refused)) (Ok (words, was)) one also in
      let pair : ◌≡◌ {A = List ℕ × Bool} (text, was_refused) (words, was) = cc in
      ap (λ (p : List ℕ × Bool). behind p.0 p.1 end) pair ∙ ap (behind words was) (lines_have_one_end (number + 1) rest end other on so)
  lines_have_one_end number (line ∷ rest) _ _ (one_line n l ls text was_refused end one on) (first_stop m k ks bad also) =
      let first : ◌≡◌ {A = End} (Ok (text, was_refused)) (Err bad) = line_has_one_end number line (Ok (text, was_refused)) (Err bad) one also in
      absurd cc
  lines_have_one_end number (line ∷ rest) _ _ (first_stop n l ls bad one) (one_line m k ks text was_refused end also so) =
      let first : ◌≡◌ {A = End} (Err bad) (Ok (text, was_refused)) = line_has_one_end number line (Err bad) (Ok (text, was_refused)) one also in
      absurd cc
  lines_have_one_end number (line ∷ rest) _ _ (first_stop n l ls bad one) (first_stop m k ks other also) =
      line_has_one_end number line (Err bad) (Err other) one also
