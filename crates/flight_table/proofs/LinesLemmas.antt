-- What a change of one line leaves of all lines.
use Rattle.std.proofs.Common.{◌≡◌, ◌≢◌, ℕ, zero, suc, ◌+◌, [], ◌∷◌, ◌++◌, length, Option, Some, None, slice_set, refl, sym, ap, ◌∙◌, subst, ⊎_elim, arith}
use Rattle.std.proofs.lemmas.Bool.{cases_eq}
use Rattle.pass_book.specs.Lines.{Lines, HasLine}
use Rattle.pass_book.proofs.LineLemmas.{below, push_here, set_here, set_else}
use Rattle.flight_rows.specs.Sight.{Sight}
use Rattle.flight_table.specs.Facts.{Facts}
use Rattle.flight_table.specs.Doors.{Gate}
use Rattle.flight_table.specs.Lines.{Said, of_pass, of_door, pass_in, door_in, total, PassesAreSo}
use Rattle.flight_table.specs.Tells.{Tells}

-- the new lines are the old ones but for one number, which has this line now
pub record Differs (lines lines' : Lines Said) (n : ℕ) (x : Option Said) : Type 0 where
  pub others : (m : ℕ) (y : Said) → m ≢ n → HasLine lines' m y → HasLine lines m y
  pub here : (y : Said) → HasLine lines' n y → x ≡ Some y

pub differ_set : (lines : Lines Said) (n : ℕ) (old : Said) (x : Option Said) → HasLine lines n old → Differs lines (slice_set lines n x) n x
differ_set lines n old x has = record {
  others = λ m y ne h. sym (set_else lines n m x ne) ∙ h;
  here = λ y h. sym (set_here lines n x (below lines n old has)) ∙ h;
}

not_behind : (lines : Lines Said) (x : Option Said) (m : ℕ) (y : Said) → m ≢ length lines → HasLine (lines ++ x ∷ []) m y → HasLine lines m y
not_behind [] x zero y ne h = absurd (ne refl)
not_behind [] x (suc m) y ne h = h
not_behind (l ∷ lines) x zero y ne h = h
not_behind (l ∷ lines) x (suc m) y ne h = not_behind lines x m y (λ e. ne (ap suc e)) h

pub differ_push : (lines : Lines Said) (x : Option Said) → Differs lines (lines ++ x ∷ []) (length lines) x
differ_push lines x = record { others = not_behind lines x; here = λ y h. sym (push_here lines x) ∙ h }

same_pass : (p r : Facts) → Some (of_pass p) ≡ Some (of_pass r) → p ≡ r
same_pass p r e = ap (λ (o : Option Said). pass_of o) e
  where
    pass_of : Option Said → Facts
    pass_of None = p
    pass_of (Some y) = pass_in y

pub same_door : (d e : Gate) → Some (of_door d) ≡ Some (of_door e) → d ≡ e
same_door d e i = ap (λ (o : Option Said). door_of o) i
  where
    door_of : Option Said → Gate
    door_of None = d
    door_of (Some y) = door_in y

-- ---- passes
pub passes_differ : (s t : Sight) (lines lines' : Lines Said) (n : ℕ) (x : Option Said) → Differs lines lines' n x
    → ((r : Facts) → x ≡ Some (of_pass r) → Tells t r × ((m : ℕ) (o : Facts) → m ≢ n → HasLine lines m (of_pass o) → o.query ≢ r.query))
    → ((m : ℕ) (o : Facts) → m ≢ n → HasLine lines m (of_pass o) → Tells t o)
    → PassesAreSo s lines → PassesAreSo t lines'
passes_differ s t lines lines' n x d new rest so = record {
  told = λ m o has. ⊎_elim
      (λ (i : m ≡ n). (new o (d.here (of_pass o) (subst (λ k. HasLine lines' k (of_pass o)) i has))).0)
      (λ (ne : m ≢ n). rest m o ne (d.others m (of_pass o) ne has))
      (cases_eq m n);
  apart = λ m k o r has had same. ⊎_elim
      (λ (i : m ≡ n). ⊎_elim
      (λ (j : k ≡ n). i ∙ sym j)
      (λ (ne : k ≢ n). absurd ((new o (d.here (of_pass o) (subst (λ z. HasLine lines' z (of_pass o)) i has))).1 k r ne (d.others k (of_pass r) ne had) (sym same)))
      (cases_eq k n))
      (λ (ne : m ≢ n). ⊎_elim
      (λ (j : k ≡ n). absurd ((new r (d.here (of_pass r) (subst (λ z. HasLine lines' z (of_pass r)) j had))).1 m o ne (d.others m (of_pass o) ne has) same))
      (λ (ne' : k ≢ n). so.apart m k o r (d.others m (of_pass o) ne has) (d.others k (of_pass r) ne' had) same)
      (cases_eq k n))
      (cases_eq m n);
}

-- the line of a pass is another one of its query
pub passes_put : (s t : Sight) (lines : Lines Said) (n : ℕ) (p r : Facts) → HasLine lines n (of_pass p) → r.query ≡ p.query → Tells t r
    → ((o : Facts) → o.query ≢ p.query → Tells s o → Tells t o) → PassesAreSo s lines → PassesAreSo t (slice_set lines n (Some (of_pass r)))
passes_put s t lines n p r has same now others so =
    passes_differ s t lines (slice_set lines n (Some (of_pass r))) n (Some (of_pass r)) (differ_set lines n (of_pass p) (Some (of_pass r)) has)
    (λ z e. let i = same_pass r z e in (subst (Tells t) i now, λ m o ne h e'. apart m o ne h (e' ∙ sym (ap (λ (f : Facts). f.query) i) ∙ same)))
    (λ m o ne h. others o (apart m o ne h) (so.told m o h))
    so
  where
    apart : (m : ℕ) (o : Facts) → m ≢ n → HasLine lines m (of_pass o) → o.query ≢ p.query
    apart m o ne h e = ne (so.apart m n o p h has e)

-- the line of a pass goes
pub passes_drop : (s t : Sight) (lines : Lines Said) (n : ℕ) (p : Facts) → HasLine lines n (of_pass p)
    → ((o : Facts) → o.query ≢ p.query → Tells s o → Tells t o) → PassesAreSo s lines → PassesAreSo t (slice_set lines n None)
passes_drop s t lines n p has others so =
    passes_differ s t lines (slice_set lines n None) n None (differ_set lines n (of_pass p) None has)
    (λ z e. cc)
    (λ m o ne h. others o (λ e. ne (so.apart m n o p h has e)) (so.told m o h))
    so

-- the line of a door is another one, or goes
pub passes_beside : (s t : Sight) (lines lines' : Lines Said) (n : ℕ) (x : Option Said) → Differs lines lines' n x → ((r : Facts) → x ≢ Some (of_pass r))
    → ((o : Facts) → Tells s o → Tells t o) → PassesAreSo s lines → PassesAreSo t lines'
passes_beside s t lines lines' n x d none others so =
    passes_differ s t lines lines' n x d (λ r e. absurd (none r e)) (λ m o ne h. others o (so.told m o h)) so

pub no_pass : (d : Gate) (r : Facts) → Some (of_door d) ≢ Some (of_pass r)
no_pass d r e = cc

pub gone_no_pass : (r : Facts) → None ≢ Some (of_pass r)
gone_no_pass r e = cc

-- a pass more
pub passes_push : (s t : Sight) (lines : Lines Said) (r : Facts) → Tells t r → ((o : Facts) → Tells s o → o.query ≢ r.query)
    → ((o : Facts) → Tells s o → Tells t o) → PassesAreSo s lines → PassesAreSo t (lines ++ Some (of_pass r) ∷ [])
passes_push s t lines r now fresh others so =
    passes_differ s t lines (lines ++ Some (of_pass r) ∷ []) (length lines) (Some (of_pass r)) (differ_push lines (Some (of_pass r)))
    (λ z e. let i = same_pass r z e in (subst (Tells t) i now, λ m o ne h e'. fresh o (so.told m o h) (e' ∙ sym (ap (λ (f : Facts). f.query) i))))
    (λ m o ne h. others o (so.told m o h))
    so

-- ---- sums
abbrev pub weigh : (Said → ℕ) → Option Said → ℕ
weigh number None = 0
weigh number (Some y) = number y

total_cons : (w : Said → ℕ) (x : Option Said) (lines : Lines Said) → total w (x ∷ lines) ≡ weigh w x + total w lines
total_cons w None lines = omega arith
total_cons w (Some y) lines = refl

pub total_set : (w : Said → ℕ) (lines : Lines Said) (n : ℕ) (old : Said) (x : Option Said) → HasLine lines n old → total w (slice_set lines n x) + w old ≡ total w lines + weigh w x
total_set w [] n old x has = cc
total_set w (l ∷ lines) zero old x has =
    let now = total_cons w x lines in
    let was = total_cons w l lines in
    let it : weigh w l ≡ w old = ap (weigh w) has in
    omega arith
total_set w (l ∷ lines) (suc n) old x has =
    let now = total_cons w l (slice_set lines n x) in
    let was = total_cons w l lines in
    let rest = total_set w lines n old x has in
    omega arith

pub total_push : (w : Said → ℕ) (lines : Lines Said) (x : Option Said) → total w (lines ++ x ∷ []) ≡ total w lines + weigh w x
total_push w [] x = let now = total_cons w x [] in omega arith
total_push w (l ∷ lines) x =
    let now = total_cons w l (lines ++ x ∷ []) in
    let was = total_cons w l lines in
    let rest = total_push w lines x in
    omega arith

-- where all weights are none, so are all numbers of lines that have none without a weight
none_counts : (w v : Said → ℕ) (lines : Lines Said) → ((m : ℕ) (y : Said) → HasLine lines m y → w y ≡ 0 → v y ≡ 0) → total w lines ≡ 0 → total v lines ≡ 0
none_counts w v [] each none = refl
none_counts w v (None ∷ lines) each none = none_counts w v lines (λ m y h. each (suc m) y h) none
none_counts w v (Some y ∷ lines) each none =
    let here : w y ≡ 0 = omega (arith, none) in
    let rest : total w lines ≡ 0 = omega (arith, none) in
    let now = each zero y refl here in
    let more = none_counts w v lines (λ m z h. each (suc m) z h) rest in
    omega arith

-- the line that has all the weight has all the numbers
pub all_of_it : (w v : Said → ℕ) (lines : Lines Said) (n : ℕ) (y : Said) → HasLine lines n y → ((m : ℕ) (z : Said) → HasLine lines m z → w z ≡ 0 → v z ≡ 0) → total w lines ≡ w y → v y ≡ total v lines
all_of_it w v lines n y has each all =
    let gone = total_set w lines n y None has in
    let left = total_set v lines n y None has in
    let none : total w (slice_set lines n None) ≡ 0 = omega arith in
    let d = differ_set lines n y None has in
    let rest = none_counts w v (slice_set lines n None) (λ m z h. split m z h d) none in
    omega arith
  where
    split : (m : ℕ) (z : Said) → HasLine (slice_set lines n None) m z → Differs lines (slice_set lines n None) n None → w z ≡ 0 → v z ≡ 0
    split m z h d = ⊎_elim (λ (i : m ≡ n). let bad : None ≡ Some z = d.here z (subst (λ k. HasLine (slice_set lines n None) k z) i h) in absurd (none_some bad)) (λ (ne : m ≢ n). each m z (d.others m z ne h)) (cases_eq m n)
      where
        none_some : None ≡ Some z → ⊥
        none_some e = cc
