-- Each kind of step keeps the rule.
use Rattle.std.proofs.Common.{◌≡◌, ◌≢◌, ◌⊎◌, ℕ, zero, suc, List, [], ◌∷◌, ◌++◌, length, set, Some, None, cond, eqb, eq-eqb, ne_eqb, refl, sym, ap, ◌∙◌, subst, inl, inr, ⊎_elim, arith}
use mathlib.Core.Option.{some, some-ne-none, some-injective}
use lib.ListN.{get_elem?}
use Rattle.atomic_table.specs.Table.{keeps, Allows, Splits, Joins}
use Rattle.atomic_table.proofs.Lists.{at_set}
use Rattle.pass_book.specs.Lines.{Lines, HasLine}
use Rattle.pass_book.specs.View.{View, of_book, of_slip, spent, Fits, Kept, opened, issued, changed, removed, HeldAgrees, put_out, gone_out, taken_in}
use Rattle.pass_book.proofs.LineLemmas.{below, push_here, push_else, set_here, set_else}

-- ---- which seat has the slip of a number
abbrev seat_set : ℕ → ℕ → (ℕ → ℕ) → ℕ → ℕ
seat_set n to seats m = cond (eqb m n) to (seats m)

seat_here : (n to : ℕ) (seats : ℕ → ℕ) → seat_set n to seats n ≡ to
seat_here n to seats = ap (λ b. cond b to (seats n)) (eq-eqb n n refl)

seat_else : (n to : ℕ) (seats : ℕ → ℕ) (m : ℕ) → m ≢ n → seat_set n to seats m ≡ seats m
seat_else n to seats m ne = ap (λ b. cond b to (seats m)) (ne_eqb m n ne)

module _ {T : Type 0} where
  at_end : (l : List (View T)) (a b : View T) (j : ℕ) → get_elem? (l ++ a ∷ []) j ≡ some b → (get_elem? l j ≡ some b) ⊎ ((j ≡ length l) × (a ≡ b))
  at_end [] a b zero e = inr (refl, some-injective a b e)
  at_end [] a b (suc j) e = absurd (some-ne-none b (sym e))
  at_end (x ∷ xs) a b zero e = inl e
  at_end (x ∷ xs) a b (suc j) e = ⊎_elim (λ t. inl t) (λ t. inr (ap suc t.0, t.1)) (at_end xs a b j e)

  -- what a seat other than the book's keeps where the slips that it may have keep theirs
  other : (book : ℕ) (lines lines' : Lines T) (seats seats' : ℕ → ℕ) (j : ℕ) (u : View T) → j ≢ book
      → ((n : ℕ) (m : T) → seats n ≡ j → HasLine lines n m → (seats' n ≡ j) × HasLine lines' n m)
      → Fits book lines seats j u → Fits book lines' seats' j u
  other book lines lines' seats seats' j (of_book ls h) ne keep fits = absurd (ne fits.0)
  other book lines lines' seats seats' j (of_slip n m) ne keep fits = keep n m fits.0 fits.1
  other book lines lines' seats seats' j spent ne keep fits = tt

  -- one seat's view changes
  change : (book : ℕ) (lines lines' : Lines T) (seats seats' : ℕ → ℕ) (views : List (View T)) (id : ℕ) (w : View T) → id ≡ book
      → ((k : ℕ) (v : View T) → get_elem? views k ≡ some v → Fits book lines seats k v)
      → ((j n : ℕ) (m : T) → j ≢ book → seats n ≡ j → HasLine lines n m → (seats' n ≡ j) × HasLine lines' n m)
      → Fits book lines' seats' id w
      → (k : ℕ) (v : View T) → get_elem? (set views id w) k ≡ some v → Fits book lines' seats' k v
  change book lines lines' seats seats' views id w own old keep mine k v e =
      ⊎_elim
      (λ (x : (k ≡ id) × (w ≡ v)). subst (λ (y : ℕ × View T). Fits book lines' seats' y.0 y.1) (λ i. (sym x.0 i, x.1 i)) mine)
      (λ (x : (k ≢ id) × (get_elem? views k ≡ some v)). other book lines lines' seats seats' k v (λ b. x.0 (b ∙ sym own)) (λ n m. keep k n m (λ b. x.0 (b ∙ sym own))) (old k v x.1))
      (at_set views id k w v e)

  pub begins : Kept {T = T} (opened ∷ [])
  begins = (0, [], (λ n. 0), one)
    where
      one : (k : ℕ) (v : View T) → get_elem? (opened {T = T} ∷ []) k ≡ some v → Fits {T = T} 0 [] (λ n. 0) k v
      one zero v e = subst (Fits {T = T} 0 [] (λ n. 0) 0) (some-injective _ _ e) (refl, refl, tt)
      one (suc k) v e = absurd (some-ne-none v (sym e))

  pub issues : (slots id : ℕ) (ls : Lines T) (l : T) → Allows {S = Unit {0}} (λ s. Kept s.views) slots id (of_book ls None, []) 0 (λ n. n) (λ _ after. after ≡ (issued (of_book ls None) l, []))
  issues slots id ls l s kept homes at fits =
      let book = kept.0 in
      let lines = kept.1 in
      let seats = kept.2 in
      let mine = kept.3 id (of_book ls None) at in
      let all = ls ++ Some l ∷ [] in
      let seats' = seat_set (length ls) book seats in
      let w = of_book all (Some (length ls, l)) in
      let keep : (j n : ℕ) (m : T) → j ≢ book → seats n ≡ j → HasLine lines n m → (seats' n ≡ j) × HasLine all n m =
      λ j n m ne is has. let has' : HasLine ls n m = subst (λ x. HasLine x n m) (sym mine.1) has in let b = below ls n m has' in (seat_else (length ls) book seats n (λ e. omega arith) ∙ is, push_else ls (Some l) n m has') in
      let now : Fits book all seats' id w = (mine.0, refl, (seat_here (length ls) book seats, push_here ls (Some l))) in
      (w, keeps, tt, (book, all, seats', change book lines all seats seats' s.views id w mine.0 kept.3 keep now), refl)

  pub gives : (id : ℕ) (ls : Lines T) (n : ℕ) (l : T) → Splits {S = Unit {0}} (λ s. Kept s.views) id (of_book ls (Some (n, l))) (of_book ls None) (of_slip n l)
  gives id ls n l s kept at =
      let book = kept.0 in
      let lines = kept.1 in
      let seats = kept.2 in
      let mine = kept.3 id (of_book ls (Some (n, l))) at in
      let left = set s.views id (of_book ls None) in
      let seats' = seat_set n (length left) seats in
      let apart : (j m : ℕ) → j ≢ book → seats m ≡ j → m ≢ n = λ j m ne is same. ne (sym is ∙ ap seats same ∙ mine.2.0) in
      let keep : (j m : ℕ) (x : T) → j ≢ book → seats m ≡ j → HasLine lines m x → (seats' m ≡ j) × HasLine lines m x = λ j m x ne is has. (seat_else n (length left) seats m (apart j m ne is) ∙ is, has) in
      let front = change book lines lines seats seats' s.views id (of_book ls None) mine.0 kept.3 keep (mine.0, mine.1, tt) in (
        book,
        lines,
        seats',
        λ k v e. ⊎_elim
            (λ was. front k v was)
            (λ (x : (k ≡ length left) × (of_slip n l ≡ v)). subst (λ (y : ℕ × View T). Fits book lines seats' y.0 y.1) (λ i. (sym x.0 i, x.1 i)) (seat_here n (length left) seats, mine.2.1))
            (at_end left (of_slip n l) v k e),
      )

  pub takes_in : (id : ℕ) (ls : Lines T) (by n : ℕ) (l : T) → Joins {S = Unit {0}} (λ s. Kept s.views) id (of_book ls None) by (of_slip n l) (of_book ls (Some (n, l))) spent
  takes_in id ls by n l s kept at ne there =
      let book = kept.0 in
      let lines = kept.1 in
      let seats = kept.2 in
      let both = of_book ls (Some (n, l)) in
      let mine = kept.3 id (of_book ls None) at in
      let was : get_elem? s.views by ≡ some (of_slip n l) = ⊎_elim (λ (t : (by ≡ id) × (both ≡ of_slip n l)). absurd (ne t.0)) (λ t. t.1) (at_set s.views id by both (of_slip n l) there) in
      let theirs = kept.3 by (of_slip n l) was in
      let seats' = seat_set n book seats in
      let fits : (k : ℕ) (v : View T) → get_elem? (set (set s.views id both) by spent) k ≡ some v → Fits book lines seats' k v = λ k v e. ⊎_elim
      (λ (x : (k ≡ by) × (spent ≡ v)). subst (λ (y : View T). Fits book lines seats' k y) x.1 tt)
      (λ (x : (k ≢ by) × (get_elem? (set s.views id both) k ≡ some v)). ⊎_elim
      (λ (y : (k ≡ id) × (both ≡ v)). subst (λ (z : ℕ × View T). Fits book lines seats' z.0 z.1) (λ i. (sym y.0 i, y.1 i)) (mine.0, mine.1, (seat_here n book seats, theirs.1)))
      (λ (y : (k ≢ id) × (get_elem? s.views k ≡ some v)). other book lines lines seats seats' k v (λ b. y.0 (b ∙ sym mine.0)) (λ m z is has. (seat_else n book seats m (λ same. x.0 (sym is ∙ ap seats same ∙ theirs.0)) ∙ is, has)) (kept.3 k v y.1))
      (at_set s.views id k both v x.1))
      (at_set (set s.views id both) by k spent v e) in
      (book, lines, seats', fits)

  pub looks : (slots id : ℕ) (ls : Lines T) (n : ℕ) (l : T) → Allows {S = Unit {0}} (λ s. Kept s.views) slots id (of_book ls (Some (n, l)), []) 0 (λ n. n) (λ _ after. (after ≡ (of_book ls (Some (n, l)), [])) × HasLine ls n l)
  looks slots id ls n l s kept homes at fits =
      let mine = kept.3 id (of_book ls (Some (n, l))) at in
      let w = of_book ls (Some (n, l)) in
      (w, keeps, tt, (kept.0, kept.1, kept.2, change kept.0 kept.1 kept.1 kept.2 kept.2 s.views id w mine.0 kept.3 (λ j m x ne is has. (is, has)) mine), (refl, subst (λ x. HasLine x n l) (sym mine.1) mine.2.1))

  pub changes : (slots id : ℕ) (ls : Lines T) (n : ℕ) (l new : T) → Allows {S = Unit {0}} (λ s. Kept s.views) slots id (of_book ls (Some (n, l)), []) 0 (λ n. n) (λ _ after. (after ≡ (changed (of_book ls (Some (n, l))) new, [])) × HasLine ls n l)
  changes slots id ls n l new s kept homes at fits =
      let book = kept.0 in
      let lines = kept.1 in
      let seats = kept.2 in
      let mine = kept.3 id (of_book ls (Some (n, l))) at in
      let all = set ls n (Some new) in
      let w = of_book all (Some (n, new)) in
      let here : HasLine ls n l = subst (λ x. HasLine x n l) (sym mine.1) mine.2.1 in
      let keep : (j m : ℕ) (x : T) → j ≢ book → seats m ≡ j → HasLine lines m x → (seats m ≡ j) × HasLine all m x =
      λ j m x ne is has. (is, set_else ls n m (Some new) (λ same. ne (sym is ∙ ap seats same ∙ mine.2.0)) ∙ subst (λ y. HasLine y m x) (sym mine.1) has) in
      (w, keeps, tt, (book, all, seats, change book lines all seats seats s.views id w mine.0 kept.3 keep (mine.0, refl, (mine.2.0, set_here ls n (Some new) (below ls n l here)))), (refl, here))

  pub removes : (slots id : ℕ) (ls : Lines T) (n : ℕ) (l : T) → Allows {S = Unit {0}} (λ s. Kept s.views) slots id (of_book ls (Some (n, l)), []) 0 (λ n. n) (λ _ after. (after ≡ (removed (of_book ls (Some (n, l))), [])) × HasLine ls n l)
  removes slots id ls n l s kept homes at fits =
      let book = kept.0 in
      let lines = kept.1 in
      let seats = kept.2 in
      let mine = kept.3 id (of_book ls (Some (n, l))) at in
      let here : HasLine ls n l = subst (λ x. HasLine x n l) (sym mine.1) mine.2.1 in
      let all = set ls n None in
      let w = of_book all None in
      let keep : (j m : ℕ) (x : T) → j ≢ book → seats m ≡ j → HasLine lines m x → (seats m ≡ j) × HasLine all m x =
      λ j m x ne is has. (is, set_else ls n m None (λ same. ne (sym is ∙ ap seats same ∙ mine.2.0)) ∙ subst (λ y. HasLine y m x) (sym mine.1) has) in
      (w, keeps, tt, (book, all, seats, change book lines all seats seats s.views id w mine.0 kept.3 keep (mine.0, refl, tt)), (refl, here))

  pub issues_as : (slots id : ℕ) (ls : Lines T) (l : T) (me : View T × List (ℕ × Unit {0})) → me ≡ (of_book ls None, []) → Allows {S = Unit {0}} (λ s. Kept s.views) slots id me 0 (λ n. n) (λ _ after. after ≡ (issued me.0 l, me.1))
  issues_as slots id ls l me is = subst (λ (m : View T × List (ℕ × Unit {0})). Allows {S = Unit {0}} (λ s. Kept s.views) slots id m 0 (λ n. n) (λ _ after. after ≡ (issued m.0 l, m.1))) (sym is) (issues slots id ls l)

  pub gives_as : (id : ℕ) (ls : Lines T) (n : ℕ) (l : T) (v : View T) → v ≡ of_book ls (Some (n, l)) → Splits {S = Unit {0}} (λ s. Kept s.views) id v (put_out v) (gone_out v)
  gives_as id ls n l v is = subst (λ (u : View T). Splits {S = Unit {0}} (λ s. Kept s.views) id u (put_out u) (gone_out u)) (sym is) (gives id ls n l)

  pub takes_in_as : (id : ℕ) (ls : Lines T) (by n : ℕ) (l : T) (v w : View T) → v ≡ of_book ls None → w ≡ of_slip n l → Joins {S = Unit {0}} (λ s. Kept s.views) id v by w (taken_in v w) spent
  takes_in_as id ls by n l v w is that = subst (λ (u : View T × View T). Joins {S = Unit {0}} (λ s. Kept s.views) id u.0 by u.1 (taken_in u.0 u.1) spent) (λ i. (sym is i, sym that i)) (takes_in id ls by n l)

  pub looks_as : (slots id : ℕ) (ls : Lines T) (n : ℕ) (l : T) (me : View T × List (ℕ × Unit {0})) → me ≡ (of_book ls (Some (n, l)), []) → Allows {S = Unit {0}} (λ s. Kept s.views) slots id me 0 (λ n. n) (λ _ after. (after ≡ me) × HeldAgrees me.0)
  looks_as slots id ls n l me is = subst (λ (m : View T × List (ℕ × Unit {0})). Allows {S = Unit {0}} (λ s. Kept s.views) slots id m 0 (λ n. n) (λ _ after. (after ≡ m) × HeldAgrees m.0)) (sym is) (looks slots id ls n l)

  pub changes_as : (slots id : ℕ) (ls : Lines T) (n : ℕ) (l new : T) (me : View T × List (ℕ × Unit {0})) → me ≡ (of_book ls (Some (n, l)), []) → Allows {S = Unit {0}} (λ s. Kept s.views) slots id me 0 (λ n. n) (λ _ after. (after ≡ (changed me.0 new, me.1)) × HeldAgrees me.0)
  changes_as slots id ls n l new me is = subst (λ (m : View T × List (ℕ × Unit {0})). Allows {S = Unit {0}} (λ s. Kept s.views) slots id m 0 (λ n. n) (λ _ after. (after ≡ (changed m.0 new, m.1)) × HeldAgrees m.0)) (sym is) (changes slots id ls n l new)

  pub removes_as : (slots id : ℕ) (ls : Lines T) (n : ℕ) (l : T) (me : View T × List (ℕ × Unit {0})) → me ≡ (of_book ls (Some (n, l)), []) → Allows {S = Unit {0}} (λ s. Kept s.views) slots id me 0 (λ n. n) (λ _ after. (after ≡ (removed me.0, me.1)) × HeldAgrees me.0)
  removes_as slots id ls n l me is = subst (λ (m : View T × List (ℕ × Unit {0})). Allows {S = Unit {0}} (λ s. Kept s.views) slots id m 0 (λ n. n) (λ _ after. (after ≡ (removed m.0, m.1)) × HeldAgrees m.0)) (sym is) (removes slots id ls n l)

  pub head_is : {x y : View T} → x ∷ [] ≡ y ∷ [] → x ≡ y
  head_is {x} {y} e = ap (λ l. first l x) e
    where
      first : List (View T) → View T → View T
      first [] d = d
      first (z ∷ zs) d = z
