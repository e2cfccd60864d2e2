-- What stands in a list, and lists in which nothing stands twice.
use Rattle.std.specs.Prelude.{◌≡◌, ◌≢◌, ◌⊎◌, ℕ, zero, suc, ◌<◌, List, [], ◌∷◌, ◌++◌, map, take, drop, length, slice_get, slice_index_or, Option, Some, None, refl}
use Rattle.std.proofs.Common.{sym, ◌∙◌, ap, subst, inl, inr, drop-cons}
use Rattle.std.proofs.lemmas.Option.{same_Some, none-some}
use Rattle.std.proofs.lemmas.List.{map-append, map-id, map_push, take-append-drop}
use Rattle.flight_journal.specs.Count.{Among, IsOnce}
use Rattle.flight_table.specs.Follows.{Removes}

-- ---- at the front

pub front : {X : Type 0} (x : X) (xs : List X) → Among x (x ∷ xs)
front x xs = (zero, refl)

pub behind : {X : Type 0} (x y : X) (xs : List X) → Among x xs → Among x (y ∷ xs)
behind x y xs h = (suc h.0, h.1)

front_at : {X : Type 0} (x y : X) (xs : List X) (n : ℕ) → slice_get (y ∷ xs) n ≡ Some x → (y ≡ x) ⊎ Among x xs
front_at x y xs zero e = inl (same_Some y x e)
front_at x y xs (suc n) e = inr (n, e)

pub front_or : {X : Type 0} (x y : X) (xs : List X) → Among x (y ∷ xs) → (y ≡ x) ⊎ Among x xs
front_or x y xs h = front_at x y xs h.0 h.1

pub nothing : {X : Type 0} (x : X) → ¬ Among x []
nothing x h = none-some x h.1

pub once_none : {X : Type 0} → IsOnce {X = X} []
once_none i j x p q = absurd (none-some x p)

pub once_front : {X : Type 0} (x : X) (xs : List X) → IsOnce (x ∷ xs) → ¬ Among x xs
once_front x xs o h = let z : zero ≡ suc h.0 = o zero (suc h.0) x refl h.1 in let b : ⊥ = cc in b

pub once_behind : {X : Type 0} (x : X) (xs : List X) → IsOnce (x ∷ xs) → IsOnce xs
once_behind x xs o i j y p q = let z : suc i ≡ suc j = o (suc i) (suc j) y p q in cc

pub once_more : {X : Type 0} (x : X) (xs : List X) → ¬ Among x xs → IsOnce xs → IsOnce (x ∷ xs)
once_more x xs n o zero zero y p q = refl
once_more x xs n o zero (suc j) y p q = absurd (n (j, q ∙ sym p))
once_more x xs n o (suc i) zero y p q = absurd (n (i, p ∙ sym q))
once_more x xs n o (suc i) (suc j) y p q = ap suc (o i j y p q)

-- ---- two lists

pub among_left : {X : Type 0} (x : X) (a b : List X) → Among x a → Among x (a ++ b)
among_left x [] b h = absurd (nothing x h)
among_left x (y ∷ a) b h = elim (front_or x y a h) [ inl e ↦ subst (λ z. Among x (z ∷ a ++ b)) (sym e) (front x (a ++ b)) | inr t ↦ behind x y (a ++ b) (among_left x a b t) ]

pub among_right : {X : Type 0} (x : X) (a b : List X) → Among x b → Among x (a ++ b)
among_right x [] b h = h
among_right x (y ∷ a) b h = behind x y (a ++ b) (among_right x a b h)

pub among_split : {X : Type 0} (x : X) (a b : List X) → Among x (a ++ b) → Among x a ⊎ Among x b
among_split x [] b h = inr h
among_split x (y ∷ a) b h =
    elim (front_or x y (a ++ b) h) [
      | inl e ↦ inl (subst (λ z. Among x (z ∷ a)) (sym e) (front x a))
      | inr t ↦ elim (among_split x a b t) [ inl l ↦ inl (behind x y a l) | inr r ↦ inr r ]
    ]

pub among_mid : {X : Type 0} (x : X) (a b : List X) → Among x (a ++ x ∷ b)
among_mid x a b = among_right x a (x ∷ b) (front x b)

-- the last one, or one before it
pub among_last : {X : Type 0} (x y : X) (a : List X) → Among x (a ++ y ∷ []) → Among x a ⊎ (y ≡ x)
among_last x y a h = elim (among_split x a (y ∷ []) h) [ inl l ↦ inl l | inr r ↦ elim (front_or x y [] r) [ inl e ↦ inr e | inr b ↦ absurd (nothing x b) ] ]

-- what stands in the list less one stood in the list
pub among_more : {X : Type 0} (x y : X) (a b : List X) → Among x (a ++ b) → Among x (a ++ y ∷ b)
among_more x y a b h =
    elim (among_split x a b h) [ inl l ↦ among_left x a (y ∷ b) l | inr r ↦ among_right x a (y ∷ b) (behind x y b r) ]

pub among_map : {X Y : Type 0} (f : X → Y) (x : X) (xs : List X) → Among x xs → Among (f x) (map f xs)
among_map f x [] h = absurd (nothing x h)
among_map f x (y ∷ xs) h = elim (front_or x y xs h) [ inl e ↦ subst (λ z. Among (f x) (f z ∷ map f xs)) (sym e) (front (f x) (map f xs)) | inr t ↦ behind (f x) (f y) (map f xs) (among_map f x xs t) ]

pub among_mapped : {X Y : Type 0} (f : X → Y) (y : Y) (xs : List X) → Among y (map f xs) → (x : X) × (Among x xs × (f x ≡ y))
among_mapped f y [] h = absurd (nothing y h)
among_mapped f y (x ∷ xs) h =
    elim (front_or y (f x) (map f xs) h) [ inl e ↦ (x, (front x xs, e)) | inr t ↦ let r = among_mapped f y xs t in (r.0, (behind r.0 x xs r.1.0, r.1.1)) ]

-- ---- nothing twice

pub once_push : {X : Type 0} (xs : List X) (y : X) → IsOnce xs → ¬ Among y xs → IsOnce (xs ++ y ∷ [])
once_push [] y o n = once_more y [] (nothing y) once_none
once_push (x ∷ xs) y o n =
    once_more x (xs ++ y ∷ [])
    (λ h. elim (among_last x y xs h) [ inl l ↦ once_front x xs o l | inr e ↦ n (subst (λ z. Among z (x ∷ xs)) (sym e) (front x xs)) ])
    (once_push xs y (once_behind x xs o) (λ h. n (behind y x xs h)))

pub once_less : {X : Type 0} (x : X) (a b : List X) → IsOnce (a ++ x ∷ b) → IsOnce (a ++ b)
once_less x [] b o = once_behind x b o
once_less x (y ∷ a) b o = once_more y (a ++ b) (λ h. once_front y (a ++ x ∷ b) o (among_more y x a b h)) (once_less x a b (once_behind y (a ++ x ∷ b) o))

-- two ways to take out the element with one key give one list
pub taken_once : {X K : Type 0} (k : X → K) (a b c d : List X) (x y : X) → IsOnce (map k (a ++ x ∷ b)) → a ++ x ∷ b ≡ c ++ y ∷ d → k x ≡ k y → a ++ b ≡ c ++ d
taken_once k [] b [] d x y o e s = let t : b ≡ d = cc in t
taken_once k [] b (z ∷ c) d x y o e s =
    let t : b ≡ c ++ y ∷ d = cc in
    absurd (once_front (k x) (map k b) o (subst (λ l. Among (k x) (map k l)) (sym t) (subst (λ l. Among (k x) l) (sym (map-append k c (y ∷ d))) (among_right (k x) (map k c) (map k (y ∷ d)) (subst (λ z. Among z (map k (y ∷ d))) (sym s) (front (k y) (map k d)))))))
taken_once k (w ∷ a) b [] d x y o e s =
    let h : w ≡ y = cc in
    absurd (once_front (k w) (map k (a ++ x ∷ b)) o (subst (λ l. Among (k w) l) (sym (map-append k a (x ∷ b))) (among_right (k w) (map k a) (map k (x ∷ b)) (subst (λ z. Among z (map k (x ∷ b))) (s ∙ ap k (sym h)) (front (k x) (map k b))))))
taken_once k (w ∷ a) b (z ∷ c) d x y o e s =
    let h : w ≡ z = cc in
    let t : a ++ x ∷ b ≡ c ++ y ∷ d = cc in
    let r : a ++ b ≡ c ++ d = taken_once k a b c d x y (once_behind (k w) (map k (a ++ x ∷ b)) o) t s in
    cc

pub once_same : {X Y : Type 0} (k : X → Y) (xs : List X) (a b : X) → IsOnce (map k xs) → Among a xs → Among b xs → k a ≡ k b → a ≡ b
once_same k [] a b o m n e = absurd (nothing a m)
once_same k (x ∷ xs) a b o m n e =
    elim (front_or a x xs m) [
      | inl s ↦ elim (front_or b x xs n) [ inl t ↦ sym s ∙ t | inr t ↦ absurd (once_front (k x) (map k xs) o (subst (λ j. Among j (map k xs)) (sym (ap k s ∙ e)) (among_map k b xs t))) ]
      | inr s ↦ elim (front_or b x xs n) [ inl t ↦ absurd (once_front (k x) (map k xs) o (subst (λ j. Among j (map k xs)) (e ∙ sym (ap k t)) (among_map k a xs s))) | inr t ↦ once_same k xs a b (once_behind (k x) (map k xs) o) s t e ]
    ]

-- ---- maps

pub map_same : {X Y : Type 0} (f g : X → Y) (xs : List X) → ((x : X) → Among x xs → f x ≡ g x) → map f xs ≡ map g xs
map_same f g [] h = refl
map_same f g (x ∷ xs) h = let a : f x ≡ g x = h x (front x xs) in let b : map f xs ≡ map g xs = map_same f g xs (λ y m. h y (behind y x xs m)) in cc

pub map_map : {X Y Z : Type 0} (f : Y → Z) (g : X → Y) (xs : List X) → map f (map g xs) ≡ map (λ x. f (g x)) xs
map_map f g [] = refl
map_map f g (x ∷ xs) = let b : map f (map g xs) ≡ map (λ x. f (g x)) xs = map_map f g xs in cc

pub once_unmap : {X Y : Type 0} (f : X → Y) (xs : List X) → IsOnce (map f xs) → IsOnce xs
once_unmap f [] o = once_none
once_unmap f (x ∷ xs) o = once_more x xs (λ h. once_front (f x) (map f xs) o (among_map f x xs h)) (once_unmap f xs (once_behind (f x) (map f xs) o))

pub once_map_less : {X Y : Type 0} (k : X → Y) (a b : List X) (w : X) → IsOnce (map k (a ++ w ∷ b)) → IsOnce (map k (a ++ b))
once_map_less k a b w o = subst (λ l. IsOnce l) (sym (map-append k a b)) (once_less (k w) (map k a) (map k b) (subst (λ l. IsOnce l) (map-append k a (w ∷ b)) o))

pub once_map_push : {X Y : Type 0} (k : X → Y) (xs : List X) (w : X) → IsOnce (map k xs) → ¬ Among (k w) (map k xs) → IsOnce (map k (xs ++ w ∷ []))
once_map_push k xs w o n = subst (λ l. IsOnce l) (sym (map_push k xs w)) (once_push (map k xs) (k w) o n)

-- with no repeats, what is left is known by the element that was removed
pub removed_once : {X : Type 0} (x : X) (a b new : List X) (old : List X) → IsOnce old → old ≡ a ++ x ∷ b → Removes x old new → new ≡ a ++ b
removed_once {X = X} x a b new old o e r =
    r.is ∙ taken_once (λ (y : X). y) r.front r.back a b x x (subst (λ l. IsOnce l) (sym (map-id (r.front ++ x ∷ r.back))) (subst (λ l. IsOnce l) r.was o)) (sym r.was ∙ e) refl

pub removes_among : {X : Type 0} (x : X) (a b : List X) → Removes x a b → Among x a
removes_among x a b r = subst (λ l. Among x l) (sym r.was) (among_mid x r.front r.back)

pub split_here : {X : Type 0} (ws : List X) (c : ℕ) (w : X) → c < length ws → w ≡ slice_index_or ws c w → ws ≡ take c ws ++ w ∷ drop (suc c) ws
split_here ws c w low is = sym (take-append-drop c ws) ∙ ap (λ l. take c ws ++ l) (drop-cons ws c w low ∙ ap (λ y. y ∷ drop (suc c) ws) (sym is))
