-- What a change of one line leaves of the doors' lines.
use Rattle.std.proofs.Common.{◌≡◌, ◌≢◌, ℕ, ◌+◌, ◌≤◌, List, [], ◌∷◌, ◌++◌, length, Option, Some, None, slice_set, refl, sym, ◌∙◌, subst, inl, inr, ⊎_elim, arith}
use Rattle.std.proofs.lemmas.Bool.{cases_eq}
use Rattle.link_io.specs.Origin.{Origin}
use Rattle.link_io.specs.declared.target.Target.{Target}
use Rattle.pass_book.specs.Lines.{Lines, HasLine}
use Rattle.flight_rows.specs.Sight.{Sight}
use Rattle.flight_table.specs.Facts.{Facts}
use Rattle.flight_table.specs.Doors.{Gate, TellsDoor, whole, lighter_door, split_off, joined_door}
use Rattle.flight_table.specs.Lines.{Said, of_pass, of_door, of_gate, total, DoorIsSo, DoorsAreSo, AreSo}
use Rattle.flight_table.proofs.LinesLemmas.{Differs, differ_set, differ_push, same_door, weigh, total_set, total_push, all_of_it}

no_door : (p : Facts) (d : Gate) → Some (of_pass p) ≢ Some (of_door d)
no_door p d e = cc

none_no_door : (d : Gate) → None ≢ Some (of_door d)
none_no_door d e = cc

module _ (keep : ℕ) (start : List Target) (origin : Origin) where
  each_differ : (lines lines' : Lines Said) (n : ℕ) (x : Option Said) → Differs lines lines' n x → ((d : Gate) → x ≡ Some (of_door d) → DoorIsSo keep start origin d)
      → ((m : ℕ) (d : Gate) → HasLine lines m (of_door d) → DoorIsSo keep start origin d) → (m : ℕ) (d : Gate) → HasLine lines' m (of_door d) → DoorIsSo keep start origin d
  each_differ lines lines' n x differ new each m d has =
      ⊎_elim
      (λ (i : m ≡ n). new d (differ.here (of_door d) (subst (λ k. HasLine lines' k (of_door d)) i has)))
      (λ (ne : m ≢ n). each m d (differ.others m (of_door d) ne has))
      (cases_eq m n)

  -- the line of a pass is another one of a pass, or goes
  pub doors_beside : (a b c : ℕ) (lines : Lines Said) (n : ℕ) (p : Facts) (x : Option Said) → HasLine lines n (of_pass p) → ((d : Gate) → x ≢ Some (of_door d)) → ((number : Gate → ℕ) → weigh (of_gate number) x ≡ 0)
      → DoorsAreSo keep start origin a b c lines → DoorsAreSo keep start origin a b c (slice_set lines n x)
  doors_beside a b c lines n p x has none light so = record {
    each = each_differ lines (slice_set lines n x) n x (differ_set lines n (of_pass p) x has) (λ d e. absurd (none d e)) so.each;
    weights = same (λ d. d.weight) ∙ so.weights;
    opened_so = same (λ d. d.opened) ∙ so.opened_so;
    cancelled_so = same (λ d. d.cancelled) ∙ so.cancelled_so;
    refreshed_so = same (λ d. d.refreshed) ∙ so.refreshed_so;
  }
    where
      same : (number : Gate → ℕ) → total (of_gate number) (slice_set lines n x) ≡ total (of_gate number) lines
      same number = let t = total_set (of_gate number) lines n (of_pass p) x has in let l = light number in omega arith

  pub doors_put_pass : (a b c : ℕ) (lines : Lines Said) (n : ℕ) (p r : Facts) → HasLine lines n (of_pass p) → DoorsAreSo keep start origin a b c lines → DoorsAreSo keep start origin a b c (slice_set lines n (Some (of_pass r)))
  doors_put_pass a b c lines n p r has so = doors_beside a b c lines n p (Some (of_pass r)) has (no_door r) (λ number. refl) so

  pub doors_drop_pass : (a b c : ℕ) (lines : Lines Said) (n : ℕ) (p : Facts) → HasLine lines n (of_pass p) → DoorsAreSo keep start origin a b c lines → DoorsAreSo keep start origin a b c (slice_set lines n None)
  doors_drop_pass a b c lines n p has so = doors_beside a b c lines n p None has none_no_door (λ number. refl) so

  -- a pass more
  pub doors_push_pass : (a b c : ℕ) (lines : Lines Said) (r : Facts) → DoorsAreSo keep start origin a b c lines → DoorsAreSo keep start origin a b c (lines ++ Some (of_pass r) ∷ [])
  doors_push_pass a b c lines r so = record {
    each = each_differ lines (lines ++ Some (of_pass r) ∷ []) (length lines) (Some (of_pass r)) (differ_push lines (Some (of_pass r))) (λ d e. absurd (no_door r d e)) so.each;
    weights = same (λ d. d.weight) ∙ so.weights;
    opened_so = same (λ d. d.opened) ∙ so.opened_so;
    cancelled_so = same (λ d. d.cancelled) ∙ so.cancelled_so;
    refreshed_so = same (λ d. d.refreshed) ∙ so.refreshed_so;
  }
    where
      same : (number : Gate → ℕ) → total (of_gate number) (lines ++ Some (of_pass r) ∷ []) ≡ total (of_gate number) lines
      same number = let t = total_push (of_gate number) lines (Some (of_pass r)) in let z : weigh (of_gate number) (Some (of_pass r)) ≡ 0 = refl in omega arith

  -- the line of a door counts so many more
  pub doors_mark : (a b c i j k : ℕ) (lines : Lines Said) (n : ℕ) (d e : Gate) → HasLine lines n (of_door d) → DoorIsSo keep start origin e → e.weight ≡ d.weight
      → e.opened ≡ d.opened + i → e.cancelled ≡ d.cancelled + j → e.refreshed ≡ d.refreshed + k
      → DoorsAreSo keep start origin a b c lines → DoorsAreSo keep start origin (a + i) (b + j) (c + k) (slice_set lines n (Some (of_door e)))
  doors_mark a b c i j k lines n d e has fits same opened cancelled refreshed so = record {
    each = each_differ lines (slice_set lines n (Some (of_door e))) n (Some (of_door e)) (differ_set lines n (of_door d) (Some (of_door e)) has) (λ z eq. subst (DoorIsSo keep start origin) (same_door e z eq) fits) so.each;
    weights = let t = moved (λ z. z.weight) in let s = so.weights in omega arith;
    opened_so = let t = moved (λ z. z.opened) in let s = so.opened_so in omega arith;
    cancelled_so = let t = moved (λ z. z.cancelled) in let s = so.cancelled_so in omega arith;
    refreshed_so = let t = moved (λ z. z.refreshed) in let s = so.refreshed_so in omega arith;
  }
    where
      moved : (number : Gate → ℕ) → total (of_gate number) (slice_set lines n (Some (of_door e))) + number d ≡ total (of_gate number) lines + number e
      moved number = total_set (of_gate number) lines n (of_door d) (Some (of_door e)) has

  -- a door is split off
  pub doors_split : (a b c : ℕ) (lines : Lines Said) (n : ℕ) (d : Gate) → 2 ≤ d.weight → HasLine lines n (of_door d) → HasLine (lines ++ Some (of_door (split_off d)) ∷ []) n (of_door d)
      → DoorsAreSo keep start origin a b c lines → DoorsAreSo keep start origin a b c (slice_set (lines ++ Some (of_door (split_off d)) ∷ []) n (Some (of_door (lighter_door d))))
  doors_split a b c lines n d two has has' so =
      let old = so.each n d has in
      let more = lines ++ Some (of_door (split_off d)) ∷ [] in
      record {
        each = each_differ more (slice_set more n (Some (of_door (lighter_door d)))) n (Some (of_door (lighter_door d))) (differ_set more n (of_door d) (Some (of_door (lighter_door d))) has')
            (λ z e. subst (DoorIsSo keep start origin) (same_door (lighter_door d) z e) (record { keep_so = old.keep_so; start_so = old.start_so; origin_so = old.origin_so; weighs = omega arith }))
            (each_differ lines more (length lines) (Some (of_door (split_off d))) (differ_push lines (Some (of_door (split_off d))))
            (λ z e. subst (DoorIsSo keep start origin) (same_door (split_off d) z e) (record { keep_so = old.keep_so; start_so = old.start_so; origin_so = old.origin_so; weighs = omega arith }))
            so.each);
        weights = let t = moved (λ z. z.weight) in let s = so.weights in omega arith;
        opened_so = let t = moved (λ z. z.opened) in let s = so.opened_so in omega arith;
        cancelled_so = let t = moved (λ z. z.cancelled) in let s = so.cancelled_so in omega arith;
        refreshed_so = let t = moved (λ z. z.refreshed) in let s = so.refreshed_so in omega arith;
      }
    where
      moved : (number : Gate → ℕ) → total (of_gate number) (slice_set (lines ++ Some (of_door (split_off d)) ∷ []) n (Some (of_door (lighter_door d)))) + number d ≡ total (of_gate number) lines + number (split_off d) + number (lighter_door d)
      moved number =
          let t = total_set (of_gate number) (lines ++ Some (of_door (split_off d)) ∷ []) n (of_door d) (Some (of_door (lighter_door d))) has' in
          let u = total_push (of_gate number) lines (Some (of_door (split_off d))) in
          let x : weigh (of_gate number) (Some (of_door (split_off d))) ≡ number (split_off d) = refl in
          let y : weigh (of_gate number) (Some (of_door (lighter_door d))) ≡ number (lighter_door d) = refl in
          let z : of_gate number (of_door d) ≡ number d = refl in
          omega arith

  -- two doors are joined
  pub doors_join : (a b c : ℕ) (lines : Lines Said) (n m : ℕ) (d e : Gate) → HasLine lines n (of_door d) → HasLine (slice_set lines n (Some (of_door (joined_door d e)))) m (of_door e)
      → DoorsAreSo keep start origin a b c lines → DoorsAreSo keep start origin a b c (slice_set (slice_set lines n (Some (of_door (joined_door d e)))) m None)
  doors_join a b c lines n m d e has had so =
      let old = so.each n d has in
      let weighs = old.weighs in
      let one = slice_set lines n (Some (of_door (joined_door d e))) in
      record {
        each = each_differ one (slice_set one m None) m None (differ_set one m (of_door e) None had) (λ z eq. absurd (none_no_door z eq))
            (each_differ lines one n (Some (of_door (joined_door d e))) (differ_set lines n (of_door d) (Some (of_door (joined_door d e))) has)
            (λ z eq. subst (DoorIsSo keep start origin) (same_door (joined_door d e) z eq) (record { keep_so = old.keep_so; start_so = old.start_so; origin_so = old.origin_so; weighs = omega arith }))
            so.each);
        weights = let t = moved (λ z. z.weight) in let s = so.weights in omega arith;
        opened_so = let t = moved (λ z. z.opened) in let s = so.opened_so in omega arith;
        cancelled_so = let t = moved (λ z. z.cancelled) in let s = so.cancelled_so in omega arith;
        refreshed_so = let t = moved (λ z. z.refreshed) in let s = so.refreshed_so in omega arith;
      }
    where
      moved : (number : Gate → ℕ) → total (of_gate number) (slice_set (slice_set lines n (Some (of_door (joined_door d e)))) m None) + number e + number d ≡ total (of_gate number) lines + number (joined_door d e)
      moved number =
          let t = total_set (of_gate number) (slice_set lines n (Some (of_door (joined_door d e)))) m (of_door e) None had in
          let u = total_set (of_gate number) lines n (of_door d) (Some (of_door (joined_door d e))) has in
          let x : weigh (of_gate number) None ≡ 0 = refl in
          let y : weigh (of_gate number) (Some (of_door (joined_door d e))) ≡ number (joined_door d e) = refl in
          let z : of_gate number (of_door d) ≡ number d = refl in
          let w : of_gate number (of_door e) ≡ number e = refl in
          omega arith

-- what a door says is so
pub door_told : (t : Sight) (lines : Lines Said) (n : ℕ) (d : Gate) → HasLine lines n (of_door d) → AreSo t lines → TellsDoor t d
door_told t lines n d has so =
    let it = so.doors.each n d has in
    record {
      keep = it.keep_so;
      start = it.start_so;
      origin = it.origin_so;
      opened = λ all. number (λ z. z.opened) all ∙ so.doors.opened_so;
      cancelled = λ all. number (λ z. z.cancelled) all ∙ so.doors.cancelled_so;
      refreshed = λ all. number (λ z. z.refreshed) all ∙ so.doors.refreshed_so;
    }
  where
    weightless : (v : Gate → ℕ) (m : ℕ) (z : Said) → HasLine lines m z → of_gate (λ e. e.weight) z ≡ 0 → of_gate v z ≡ 0
    weightless v m (inl p) had none = refl
    weightless v m (inr e) had none = let w = (so.doors.each m e had).weighs in absurd (omega (arith, w, none))

    number : (v : Gate → ℕ) → d.weight ≡ whole → v d ≡ total (of_gate v) lines
    number v all = all_of_it (of_gate (λ e. e.weight)) (of_gate v) lines n (of_door d) has (weightless v) (so.doors.weights ∙ sym all)
