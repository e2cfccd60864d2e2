-- Rows by number.
use Rattle.std.proofs.Common.{◌≡◌, ◌≢◌, ℕ, Bool, true, false, true≢false, cond, Option, Some, None, slice_get, refl, sym, ap, ◌∙◌, subst, ⊎_elim}
use Rattle.std.specs.Ordering.{nat_cmp, is_eq}
use Rattle.std.specs.declared.cmp.Ordering.TheVariants.{Less, Equal, Greater}
use Rattle.std.specs.BTreeMap.{BTreeMap, get, is_at, Updates}
use Rattle.std.proofs.lemmas.Bool.{cases_eq}
use Rattle.link_io.specs.Parcel.{Packed}
use Rattle.shard_cache.specs.Recency.{is_listed}
use Rattle.link_io.specs.declared.target.Key.{Key}
use Rattle.link_io.specs.declared.target.Target.{Target}
use Rattle.flight_rows.specs.declared.row.Row.{Row}
use Rattle.flight_journal.specs.State.{Flight, State}
use Rattle.std.specs.declared.cmp.Ordering.{Ordering}
use Rattle.flight_rows.specs.Rows.{RowAt, RowsFit, KeysFit, is_live}

module _ {L V : Type 0} (Aimed : ℕ → Target → Packed L → Type 0) (Came_so : ℕ → Target → Option ℕ → V → Type 0) where
  -- one flight changes
  pub rows_change : (s s' : State) (rows rows' : BTreeMap ℕ (Row L V)) (f : ℕ)
      → ((g : ℕ) → g ≢ f → slice_get s'.flights g ≡ slice_get s.flights g)
      → ((g : ℕ) → g ≢ f → is_listed g s'.kept ≡ is_listed g s.kept)
      → ((g : ℕ) → g ≢ f → get nat_cmp rows' g ≡ get nat_cmp rows g)
      → RowAt Aimed Came_so f (slice_get s'.flights f) (is_listed f s'.kept) (get nat_cmp rows' f)
      → RowsFit Aimed Came_so s rows → RowsFit Aimed Came_so s' rows'
  rows_change s s' rows rows' f flights kept same here all g =
      ⊎_elim
      (λ (e : g ≡ f). let P : ℕ → Type 0 = λ n. RowAt Aimed Came_so n (slice_get s'.flights n) (is_listed n s'.kept) (get nat_cmp rows' n) in subst P (sym e) here)
      (λ (ne : g ≢ f). rw (flights g ne, kept g ne, same g ne) (all g))
      (cases_eq g f)

is_equal : (o : Ordering) → is_eq o ≡ true → o ≡ Equal
is_equal Less e = cc
is_equal Equal e = refl
is_equal Greater e = cc

-- ---- keys
module _ (cmp : Key → Key → Ordering) where
  -- one flight changes, and its key stays taken as it was
  pub keys_same : (s s' : State) (keys : BTreeMap Key ℕ) (f : ℕ) (x x' : Flight)
      → slice_get s.flights f ≡ Some x → slice_get s'.flights f ≡ Some x' → x'.target ≡ x.target
      → is_live (is_listed f s'.kept) x' ≡ is_live (is_listed f s.kept) x
      → ((g : ℕ) → g ≢ f → slice_get s'.flights g ≡ slice_get s.flights g)
      → ((g : ℕ) → g ≢ f → is_listed g s'.kept ≡ is_listed g s.kept)
      → KeysFit cmp s keys → KeysFit cmp s' keys
  keys_same s s' keys f x x' old new target live flights kept fit = record {
    found = λ k g e.
        let was = fit.found k g e in
        ⊎_elim
        (λ (same : g ≡ f).
        let y_is : Some was.0 ≡ Some x = sym was.1 ∙ ap (λ n. slice_get s.flights n) same ∙ old in
        let y_x : was.0 ≡ x = cc in (
          x',
          ap (λ n. slice_get s'.flights n) same ∙ new,
          ap (λ t. t.key) (target ∙ ap (λ (y : Flight). y.target) (sym y_x)) ∙ was.2,
          ap (λ n. is_live (is_listed n s'.kept) x') same ∙ live ∙ ap (λ n. is_live (is_listed n s.kept) x) (sym same) ∙ ap (λ y. is_live (is_listed g s.kept) y) (sym y_x) ∙ was.3,
        ))
        (λ (ne : g ≢ f). (was.0, flights g ne ∙ was.1, was.2, ap (λ b. is_live b was.0) (kept g ne) ∙ was.3))
        (cases_eq g f);
    listed = λ g y e l.
        ⊎_elim
        (λ (same : g ≡ f).
        let y_is : Some y ≡ Some x' = sym e ∙ ap (λ n. slice_get s'.flights n) same ∙ new in
        let y_x : y ≡ x' = cc in
        let was = fit.listed f x old (sym live ∙ ap (λ n. is_live (is_listed n s'.kept) x') (sym same) ∙ ap (λ z. is_live (is_listed g s'.kept) z) (sym y_x) ∙ l) in
        ap (λ (t : Target). get cmp keys t.key) (ap (λ (z : Flight). z.target) y_x ∙ target) ∙ was ∙ ap Some (sym same))
        (λ (ne : g ≢ f). fit.listed g y (sym (flights g ne) ∙ e) (ap (λ b. is_live b y) (sym (kept g ne)) ∙ l))
        (cases_eq g f);
  }

  -- one flight comes, and takes its key
  pub keys_add : ((a b : Key) → cmp a b ≡ Equal → a ≡ b) → (s s' : State) (keys keys' : BTreeMap Key ℕ) (f : ℕ) (x' : Flight)
      → slice_get s.flights f ≡ None → slice_get s'.flights f ≡ Some x' → is_live (is_listed f s'.kept) x' ≡ true
      → ((g : ℕ) → g ≢ f → slice_get s'.flights g ≡ slice_get s.flights g)
      → ((g : ℕ) → g ≢ f → is_listed g s'.kept ≡ is_listed g s.kept)
      → ((g : ℕ) (y : Flight) → slice_get s.flights g ≡ Some y → is_live (is_listed g s.kept) y ≡ true → y.target.key ≢ x'.target.key)
      → Updates cmp keys keys' x'.target.key (Some f)
      → KeysFit cmp s keys → KeysFit cmp s' keys'
  keys_add exact s s' keys keys' f x' before new live flights kept apart updates fit = record {
    found = λ k g e. found k g e (is_at (cmp x'.target.key) k) refl;
    listed = λ g y e l.
        ⊎_elim
        (λ (same : g ≡ f).
        let y_is : Some y ≡ Some x' = sym e ∙ ap (λ n. slice_get s'.flights n) same ∙ new in
        let y_x : y ≡ x' = cc in
        ap (λ (z : Flight). get cmp keys' z.target.key) y_x ∙ updates.1 ∙ ap Some (sym same))
        (λ (ne : g ≢ f).
        let e' = sym (flights g ne) ∙ e in
        let l' = ap (λ b. is_live b y) (sym (kept g ne)) ∙ l in
        updates.2 y.target.key (not_at_key (is_at (cmp x'.target.key) y.target.key) refl (apart g y e' l')) ∙ fit.listed g y e' l')
        (cases_eq g f);
  }
    where
      at_key : (k : Key) → is_at (cmp x'.target.key) k ≡ true → x'.target.key ≡ k
      at_key k e = exact x'.target.key k (is_equal (cmp x'.target.key k) e)

      not_at_key : {k : Key} (b : Bool) → is_at (cmp x'.target.key) k ≡ b → k ≢ x'.target.key → is_at (cmp x'.target.key) k ≡ false
      not_at_key {k} true e ne = absurd (ne (sym (at_key k e)))
      not_at_key {k} false e ne = e

      found : (k : Key) (g : ℕ) → get cmp keys' k ≡ Some g → (b : Bool) → is_at (cmp x'.target.key) k ≡ b
          → (x : Flight) × (slice_get s'.flights g ≡ Some x) × (x.target.key ≡ k) × (is_live (is_listed g s'.kept) x ≡ true)
      found k g e true is =
          let now : get cmp keys' k ≡ Some f = updates.0 k ∙ ap (λ b. cond b (Some f) (get cmp keys k)) is in
          let g_is : Some g ≡ Some f = sym e ∙ now in
          let g_f : g ≡ f = cc in
          (x', ap (λ n. slice_get s'.flights n) g_f ∙ new, at_key k is, ap (λ n. is_live (is_listed n s'.kept) x') g_f ∙ live)
      found k g e false is =
          let was = fit.found k g (sym (updates.2 k is) ∙ e) in
          ⊎_elim
          (λ (same : g ≡ f). let none : None ≡ Some was.0 = sym before ∙ ap (λ n. slice_get s.flights n) (sym same) ∙ was.1 in cc)
          (λ (ne : g ≢ f). (was.0, flights g ne ∙ was.1, was.2, ap (λ b. is_live b was.0) (kept g ne) ∙ was.3))
          (cases_eq g f)

  -- one flight's key is free again
  pub keys_drop : ((a b : Key) → cmp a b ≡ Equal → a ≡ b) → ((a : Key) → cmp a a ≡ Equal) → (s s' : State) (keys keys' : BTreeMap Key ℕ) (f : ℕ) (x x' : Flight)
      → slice_get s.flights f ≡ Some x → slice_get s'.flights f ≡ Some x' → is_live (is_listed f s.kept) x ≡ true → is_live (is_listed f s'.kept) x' ≡ false
      → ((g : ℕ) → g ≢ f → slice_get s'.flights g ≡ slice_get s.flights g)
      → ((g : ℕ) → g ≢ f → is_listed g s'.kept ≡ is_listed g s.kept)
      → Updates cmp keys keys' x.target.key None
      → KeysFit cmp s keys → KeysFit cmp s' keys'
  keys_drop exact own s s' keys keys' f x x' old new live dead flights kept updates fit = record {
    found = λ k g e. found k g e (is_at (cmp x.target.key) k) refl;
    listed = λ g y e l.
        ⊎_elim
        (λ (same : g ≡ f).
        let y_is : Some y ≡ Some x' = sym e ∙ ap (λ n. slice_get s'.flights n) same ∙ new in
        let y_x : y ≡ x' = cc in
        absurd (true≢false (sym l ∙ ap (λ n. is_live (is_listed n s'.kept) y) same ∙ ap (λ z. is_live (is_listed f s'.kept) z) y_x ∙ dead)))
        (λ (ne : g ≢ f).
        let e' = sym (flights g ne) ∙ e in
        let l' = ap (λ b. is_live b y) (sym (kept g ne)) ∙ l in
        updates.2 y.target.key (apart g y ne (fit.listed g y e' l') (is_at (cmp x.target.key) y.target.key) refl) ∙ fit.listed g y e' l')
        (cases_eq g f);
  }
    where
      has_key : get cmp keys x.target.key ≡ Some f
      has_key = fit.listed f x old live

      apart : (g : ℕ) (y : Flight) → g ≢ f → get cmp keys y.target.key ≡ Some g → (b : Bool) → is_at (cmp x.target.key) y.target.key ≡ b → is_at (cmp x.target.key) y.target.key ≡ false
      apart g y ne e true is =
          let same : x.target.key ≡ y.target.key = exact x.target.key y.target.key (is_equal (cmp x.target.key y.target.key) is) in
          let both : Some f ≡ Some g = sym has_key ∙ ap (λ k. get cmp keys k) same ∙ e in
          let f_g : f ≡ g = cc in
          absurd (ne (sym f_g))
      apart g y ne e false is = is

      found : (k : Key) (g : ℕ) → get cmp keys' k ≡ Some g → (b : Bool) → is_at (cmp x.target.key) k ≡ b
          → (y : Flight) × (slice_get s'.flights g ≡ Some y) × (y.target.key ≡ k) × (is_live (is_listed g s'.kept) y ≡ true)
      found k g e true is = let none : None ≡ Some g = sym (updates.0 k ∙ ap (λ b. cond b None (get cmp keys k)) is) ∙ e in cc
      found k g e false is =
          let was = fit.found k g (sym (updates.2 k is) ∙ e) in
          ⊎_elim
          (λ (same : g ≡ f).
          let y_is : Some was.0 ≡ Some x = sym was.1 ∙ ap (λ n. slice_get s.flights n) same ∙ old in
          let y_x : was.0 ≡ x = cc in
          let key : x.target.key ≡ k = ap (λ (z : Flight). z.target.key) (sym y_x) ∙ was.2 in
          let yes : is_at (cmp x.target.key) k ≡ true = ap (λ c. is_eq (cmp x.target.key c)) (sym key) ∙ ap is_eq (own x.target.key) in
          absurd (true≢false (sym yes ∙ is)))
          (λ (ne : g ≢ f). (was.0, flights g ne ∙ was.1, was.2, ap (λ b. is_live b was.0) (kept g ne) ∙ was.3))
          (cases_eq g f)
