-- Listed rows, rows that are taken out, and where a row stands in the order.
use Rattle.std.proofs.Common.{◌≡◌, ◌≢◌, ℕ, zero, suc, ◌+◌, ◌<◌, ◌≤◌, length, ◌==◌, if◌then◌else◌, Bool, true, false, true≢false, List, [], ◌∷◌, ◌++◌, Some, refl, sym, ap, ◌∙◌, arith, eq-eqb, ne_eqb}
use Rattle.shard_cache.specs.Recency.{is_listed, without, only, oldest_of, AreListedOnce, AreBelow}

-- a row that is listed and one that isn't are two
pub apart_rows : (q r : ℕ) (ps : List (ℕ × ℕ)) → is_listed q ps ≡ true → is_listed r ps ≡ false → r ≢ q
apart_rows q r ps listed unlisted same = true≢false (sym listed ∙ ap (λ x. is_listed x ps) (sym same) ∙ unlisted)

-- the first row is listed
pub first_listed : (p : ℕ × ℕ) (ps : List (ℕ × ℕ)) → is_listed p.0 (p ∷ ps) ≡ true
first_listed p ps = ap (λ b. if b then true else is_listed p.0 ps) (eq-eqb p.0 p.0 refl)

-- a row that is listed further on is listed
pub listed_behind : (q : ℕ) (p : ℕ × ℕ) (ps : List (ℕ × ℕ)) → is_listed q ps ≡ true → is_listed q (p ∷ ps) ≡ true
listed_behind q p ps h = split (p.0 == q)
  where
    split : (b : Bool) → (if b then true else is_listed q ps) ≡ true
    split true = refl
    split false = h

-- a row that isn't listed is neither the first nor listed further on
pub unlisted_parts : (q : ℕ) (p : ℕ × ℕ) (ps : List (ℕ × ℕ)) → is_listed q (p ∷ ps) ≡ false → (p.0 ≢ q) × (is_listed q ps ≡ false)
unlisted_parts q p ps h = split (p.0 == q) refl h
  where
    split : (b : Bool) → (p.0 == q) ≡ b → (if b then true else is_listed q ps) ≡ false → (p.0 ≢ q) × (is_listed q ps ≡ false)
    split true e k = absurd (true≢false k)
    split false e k = ((λ same. true≢false (sym (eq-eqb p.0 q same) ∙ e)), k)

-- a row of neither part isn't listed
pub unlisted_append : (q : ℕ) (a b : List (ℕ × ℕ)) → is_listed q a ≡ false → is_listed q b ≡ false → is_listed q (a ++ b) ≡ false
unlisted_append q [] b none h = h
unlisted_append q (p ∷ a) b none h =
    let parts = unlisted_parts q p a none in
    ap (λ x. if x then true else is_listed q (a ++ b)) (ne_eqb p.0 q parts.0) ∙ unlisted_append q a b parts.1 h

-- what isn't listed is listed in no part
pub unlisted_in_parts : (q : ℕ) (a b : List (ℕ × ℕ)) → is_listed q (a ++ b) ≡ false → (is_listed q a ≡ false) × (is_listed q b ≡ false)
unlisted_in_parts q [] b h = (refl, h)
unlisted_in_parts q (p ∷ a) b h =
    let parts = unlisted_parts q p (a ++ b) h in
    let rest = unlisted_in_parts q a b parts.1 in
    (ap (λ x. if x then true else is_listed q a) (ne_eqb p.0 q parts.0) ∙ rest.0, rest.1)

-- what is listed in a part is listed
pub listed_in_first : (q : ℕ) (a b : List (ℕ × ℕ)) → is_listed q a ≡ true → is_listed q (a ++ b) ≡ true
listed_in_first q [] b h = absurd (true≢false (sym h))
listed_in_first q (p ∷ a) b h = split (p.0 == q) h (listed_in_first q a b)
  where
    split : (c : Bool) → (if c then true else is_listed q a) ≡ true → (is_listed q a ≡ true → is_listed q (a ++ b) ≡ true) → (if c then true else is_listed q (a ++ b)) ≡ true
    split true k further = refl
    split false k further = further k

pub listed_in_second : (q : ℕ) (a b : List (ℕ × ℕ)) → is_listed q b ≡ true → is_listed q (a ++ b) ≡ true
listed_in_second q [] b h = h
listed_in_second q (p ∷ a) b h = listed_behind q p (a ++ b) (listed_in_second q a b h)

-- ---- what isn't listed can't be taken out
pub without_unlisted : (q : ℕ) (ps : List (ℕ × ℕ)) → is_listed q ps ≡ false → (without q ps ≡ ps) × (only q ps ≡ [])
without_unlisted q [] h = (refl, refl)
without_unlisted q (p ∷ ps) h =
    let parts = unlisted_parts q p ps h in
    let rest = without_unlisted q ps parts.1 in
    let apart = ne_eqb p.0 q parts.0 in
    (ap (λ b. if b then without q ps else p ∷ without q ps) apart ∙ ap (λ l. p ∷ l) rest.0, ap (λ b. if b then p ∷ only q ps else only q ps) apart ∙ rest.1)

-- ---- where a row stands
-- the rows before a listed row and those behind it
pub record Splits (row : ℕ) (order : List (ℕ × ℕ)) : Type 0 where
  pub before : List (ℕ × ℕ)
  pub here : ℕ × ℕ
  pub behind : List (ℕ × ℕ)
  pub is : order ≡ before ++ here ∷ behind
  pub row_is : here.0 ≡ row
  pub before_once : AreListedOnce before
  pub behind_once : AreListedOnce behind
  pub rest_once : AreListedOnce (before ++ behind)
  pub apart : (q : ℕ) → is_listed q before ≡ true → is_listed q behind ≡ false
  pub rest : without row order ≡ before ++ behind
  pub alone : only row order ≡ here ∷ []

-- a row that is listed once stands somewhere
pub splits : (row : ℕ) (order : List (ℕ × ℕ)) → AreListedOnce order → is_listed row order ≡ true → Splits row order
splits row [] once listed = absurd (true≢false (sym listed))
splits row (p ∷ ps) once listed = split (p.0 == row) refl listed (splits row ps once.1)
  where
    split : (b : Bool) → (p.0 == row) ≡ b → (if b then true else is_listed row ps) ≡ true → (is_listed row ps ≡ true → Splits row ps) → Splits row (p ∷ ps)
    split true e h further =
        let same : p.0 ≡ row = grind (arith, e) in
        let gone = without_unlisted row ps (ap (λ r. is_listed r ps) (sym same) ∙ once.0) in record {
          before = [];
          here = p;
          behind = ps;
          is = refl;
          row_is = same;
          before_once = tt;
          behind_once = once.1;
          rest_once = once.1;
          apart = λ q none. absurd (true≢false (sym none));
          rest = ap (λ b. if b then without row ps else p ∷ without row ps) e ∙ gone.0;
          alone = ap (λ b. if b then p ∷ only row ps else only row ps) e ∙ ap (λ l. p ∷ l) gone.1;
        }
    split false e h further =
        let s = further h in
        let none : is_listed p.0 (s.before ++ s.here ∷ s.behind) ≡ false = ap (is_listed p.0) (sym s.is) ∙ once.0 in
        let parts = unlisted_in_parts p.0 s.before (s.here ∷ s.behind) none in
        let beyond = unlisted_parts p.0 s.here s.behind parts.1 in record {
          before = p ∷ s.before;
          here = s.here;
          behind = s.behind;
          is = ap (λ l. p ∷ l) s.is;
          row_is = s.row_is;
          before_once = (parts.0, s.before_once);
          behind_once = s.behind_once;
          rest_once = (unlisted_append p.0 s.before s.behind parts.0 beyond.1, s.rest_once);
          apart = λ q h. in_front q s (p.0 == q) refl beyond.1 h;
          rest = ap (λ b. if b then without row ps else p ∷ without row ps) e ∙ ap (λ l. p ∷ l) s.rest;
          alone = ap (λ b. if b then p ∷ only row ps else only row ps) e ∙ s.alone;
        }
      where
        in_front : (q : ℕ) (s : Splits row ps) (b : Bool) → (p.0 == q) ≡ b → is_listed p.0 s.behind ≡ false → (if b then true else is_listed q s.before) ≡ true → is_listed q s.behind ≡ false
        in_front q s true e first h = let same : p.0 ≡ q = grind (arith, e) in ap (λ r. is_listed r s.behind) (sym same) ∙ first
        in_front q s false e first h = s.apart q h

-- ---- what callers ask of the list
-- the least recently used row is listed
pub oldest_listed : (row : ℕ) (order : List (ℕ × ℕ)) → oldest_of order ≡ Some row → is_listed row order ≡ true
oldest_listed row [] e = cc
oldest_listed row (p ∷ []) e = let same : p.0 ≡ row = cc in ap (λ r. is_listed r (p ∷ [])) (sym same) ∙ first_listed p []
oldest_listed row (p ∷ (q ∷ qs)) e = listed_behind row p (q ∷ qs) (oldest_listed row (q ∷ qs) e)

-- another row is listed as before
pub still_listed : (row other : ℕ) (order : List (ℕ × ℕ)) → other ≢ row → is_listed other (without row order) ≡ is_listed other order
still_listed row other [] ne = refl
still_listed row other (p ∷ ps) ne = split (p.0 == row) refl (still_listed row other ps ne)
  where
    split : (b : Bool) → (p.0 == row) ≡ b → is_listed other (without row ps) ≡ is_listed other ps → is_listed other (if b then without row ps else p ∷ without row ps) ≡ (if p.0 == other then true else is_listed other ps)
    split true e h = let apart : (p.0 == other) ≡ false = grind (arith, e, ne) in rw apart h
    split false e h = ap (λ b. if p.0 == other then true else b) h

-- a row that is above all listed ones isn't listed
pub unlisted_above : (row : ℕ) (order : List (ℕ × ℕ)) → AreBelow row order → is_listed row order ≡ false
unlisted_above row [] below = refl
unlisted_above row (p ∷ ps) below =
    let apart : (p.0 == row) ≡ false = ne_eqb p.0 row (λ same. omega (arith, below.0, same)) in
    ap (λ b. if b then true else is_listed row ps) apart ∙ unlisted_above row ps below.1

pub below_more : (row : ℕ) (order : List (ℕ × ℕ)) → AreBelow row order → AreBelow (row + 1) order
below_more row [] below = tt
below_more row (p ∷ ps) below = (omega (arith, below.0), below_more row ps below.1)

-- ---- room
pub once_without : (row : ℕ) (order : List (ℕ × ℕ)) → AreListedOnce order → AreListedOnce (without row order)
once_without row [] once = tt
once_without row (p ∷ ps) once = split (p.0 == row) refl (once_without row ps once.1)
  where
    split : (b : Bool) → (p.0 == row) ≡ b → AreListedOnce (without row ps) → AreListedOnce (if b then without row ps else p ∷ without row ps)
    split true e rest = rest
    split false e rest = (still_listed row p.0 ps (λ same. true≢false (sym (eq-eqb p.0 row same) ∙ e)) ∙ once.0, rest)

-- a row that is listed once takes one place
pub length_without : (row : ℕ) (order : List (ℕ × ℕ)) → AreListedOnce order → length order ≤ suc (length (without row order))
length_without row [] once = omega arith
length_without row (p ∷ ps) once = split (p.0 == row) refl (length_without row ps once.1)
  where
    split : (b : Bool) → (p.0 == row) ≡ b → length ps ≤ suc (length (without row ps)) → suc (length ps) ≤ suc (length (if b then without row ps else p ∷ without row ps))
    split true e rest =
        let same : p.0 ≡ row = grind (arith, e) in
        let gone = ap length (without_unlisted row ps (ap (λ r. is_listed r ps) (sym same) ∙ once.0)).0 in omega (arith, gone)
    split false e rest = omega (arith, rest)

below_without : (rows : ℕ) (order : List (ℕ × ℕ)) → AreBelow (suc rows) order → AreBelow rows (without rows order)
below_without rows [] below = tt
below_without rows (p ∷ ps) below = split (p.0 == rows) refl (below_without rows ps below.1)
  where
    split : (b : Bool) → (p.0 == rows) ≡ b → AreBelow rows (without rows ps) → AreBelow rows (if b then without rows ps else p ∷ without rows ps)
    split true e rest = rest
    split false e rest = let first = below.0 in (grind (arith, e, first), rest)

-- rows that are listed once, and below a number, are at most so many
pub at_most : (rows : ℕ) (order : List (ℕ × ℕ)) → AreListedOnce order → AreBelow rows order → length order ≤ rows
at_most zero [] once below = omega arith
at_most zero (p ∷ ps) once below = absurd (omega (arith, below.0))
at_most (suc rows) order once below =
    let rest = at_most rows (without rows order) (once_without rows order once) (below_without rows order below) in
    let len = length_without rows order once in omega (arith, rest, len)

-- so where a row isn't listed there is room for it
pub room_for : (rows row : ℕ) (order : List (ℕ × ℕ)) → AreListedOnce order → AreBelow rows order → row < rows → is_listed row order ≡ false → length order < rows
room_for rows row order once below within unlisted =
    let all = at_most rows ((row, 0) ∷ order) (unlisted, once) (within, below) in omega (arith, all)
