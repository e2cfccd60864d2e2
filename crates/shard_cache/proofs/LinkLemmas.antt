-- Nodes that lead through rows: what a write keeps, and a row that is taken out or put in front.
use Rattle.std.proofs.Common.{◌≡◌, ℕ, zero, suc, ◌<◌, ◌≤◌, ◌==◌, if◌then◌else◌, Bool, true, false, true≢false, List, [], ◌∷◌, ◌++◌, length, Option, Some, None, slice_get, get_or, refl, sym, ap, ◌∙◌, subst, arith, length-append}
use Rattle.std.proofs.lemmas.Option.{slice_get_within, get_or_from_slice_get}
use Rattle.shard_cache.specs.Recency.{is_listed, without, only, AreListedOnce}
use Rattle.shard_cache.specs.Linked.{node, first_of, last_of, Leads, with_older, rows_from, order_of, IsInOrder, AreSound, Changes, SetsOlder, SetsNewer}
use Rattle.shard_cache.specs.declared.links.Node.{Node}
use Rattle.shard_cache.specs.declared.links.Links.{Links}
use Rattle.shard_cache.proofs.OrderLemmas.{apart_rows, first_listed, listed_behind, unlisted_parts, listed_in_first, listed_in_second, Splits, splits}

-- ---- the walk
-- the rows from the first one on are those that the nodes lead through
pub rows_from_leads : (nodes : List Node) (before : Option ℕ) (order : List (ℕ × ℕ)) (most : ℕ) → Leads nodes before order None → length order ≤ most → rows_from nodes most (first_of order None) ≡ order
rows_from_leads nodes before [] zero leads fit = refl
rows_from_leads nodes before [] (suc most) leads fit = refl
rows_from_leads nodes before (p ∷ ps) zero leads fit = absurd (omega (arith, fit))
rows_from_leads nodes before (p ∷ ps) (suc most) leads fit =
    ap (λ n. with_older p.0 n (rows_from nodes most)) leads.0
    ∙ ap (λ l. p ∷ l) (rows_from_leads nodes (Some p.0) ps most leads.1 (omega (arith, fit)))

-- links that hold rows in an order show that order
pub order_shown : (links : Links) (order : List (ℕ × ℕ)) → IsInOrder links order → order_of links ≡ order
order_shown links order holds =
    ap (rows_from links.nodes.items (length links.nodes.items)) holds.newest
    ∙ rows_from_leads links.nodes.items None order (length links.nodes.items) holds.leads holds.fit

pub shows : (links : Links) (order : List (ℕ × ℕ)) → IsInOrder links order → AreSound links × (order_of links ≡ order)
shows links order holds = let is = order_shown links order holds in (subst (IsInOrder links) (sym is) holds, is)

-- ---- two parts
pub leads_first : (nodes : List Node) (before : Option ℕ) (a b : List (ℕ × ℕ)) (behind : Option ℕ) → Leads nodes before (a ++ b) behind → Leads nodes before a (first_of b behind)
leads_first nodes before [] b behind leads = tt
leads_first nodes before (p ∷ a) b behind leads = (leads.0 ∙ ap (λ next. Some (node before next p.1)) (first_append a b behind), leads_first nodes (Some p.0) a b behind leads.1)
  where
    first_append : (a b : List (ℕ × ℕ)) (behind : Option ℕ) → first_of (a ++ b) behind ≡ first_of a (first_of b behind)
    first_append [] b behind = refl
    first_append (q ∷ a) b behind = refl

pub leads_second : (nodes : List Node) (before : Option ℕ) (a b : List (ℕ × ℕ)) (behind : Option ℕ) → Leads nodes before (a ++ b) behind → Leads nodes (last_of before a) b behind
leads_second nodes before [] b behind leads = leads
leads_second nodes before (p ∷ a) b behind leads = leads_second nodes (Some p.0) a b behind leads.1

first_append : (a b : List (ℕ × ℕ)) (behind : Option ℕ) → first_of (a ++ b) behind ≡ first_of a (first_of b behind)
first_append [] b behind = refl
first_append (q ∷ a) b behind = refl

last_append : (before : Option ℕ) (a b : List (ℕ × ℕ)) → last_of before (a ++ b) ≡ last_of (last_of before a) b
last_append before [] b = refl
last_append before (p ∷ a) b = last_append (Some p.0) a b

pub leads_both : (nodes : List Node) (before : Option ℕ) (a b : List (ℕ × ℕ)) (behind : Option ℕ) → Leads nodes before a (first_of b behind) → Leads nodes (last_of before a) b behind → Leads nodes before (a ++ b) behind
leads_both nodes before [] b behind first second = second
leads_both nodes before (p ∷ a) b behind first second =
    (first.0 ∙ ap (λ next. Some (node before next p.1)) (sym (first_append a b behind)), leads_both nodes (Some p.0) a b behind first.1 second)

-- ---- writes
-- a listed row has a node
pub node_listed : (nodes : List Node) (before : Option ℕ) (order : List (ℕ × ℕ)) (behind : Option ℕ) (row : ℕ) → Leads nodes before order behind → is_listed row order ≡ true → (n : Node) × (slice_get nodes row ≡ Some n)
node_listed nodes before [] behind row leads listed = absurd (true≢false (sym listed))
node_listed nodes before (p ∷ ps) behind row leads listed = split (p.0 == row) refl listed (node_listed nodes (Some p.0) ps behind row leads.1)
  where
    split : (b : Bool) → (p.0 == row) ≡ b → (if b then true else is_listed row ps) ≡ true → (is_listed row ps ≡ true → (n : Node) × (slice_get nodes row ≡ Some n)) → (n : Node) × (slice_get nodes row ≡ Some n)
    split true e h further = let same : p.0 ≡ row = grind (arith, e) in (node before (first_of ps behind) p.1, ap (slice_get nodes) (sym same) ∙ leads.0)
    split false e h further = further h

-- a write to a row that isn't among them keeps the way
pub leads_else : (old new : List Node) (row : ℕ) (now : Node) (before : Option ℕ) (order : List (ℕ × ℕ)) (behind : Option ℕ) → Changes old new row now → is_listed row order ≡ false → Leads old before order behind → Leads new before order behind
leads_else old new row now before [] behind change unlisted leads = tt
leads_else old new row now before (p ∷ ps) behind change unlisted leads =
    let parts = unlisted_parts row p ps unlisted in
    (change.others p.0 parts.0 ∙ leads.0, leads_else old new row now (Some p.0) ps behind change parts.1 leads.1)

-- the last of some rows is one of them
last_listed : (p : ℕ × ℕ) (ps : List (ℕ × ℕ)) → (last : ℕ) × (last_of (Some p.0) ps ≡ Some last) × (is_listed last (p ∷ ps) ≡ true)
last_listed p [] = (p.0, refl, first_listed p [])
last_listed p (q ∷ qs) = let rest = last_listed q qs in (rest.0, rest.1, listed_behind rest.0 p (q ∷ qs) rest.2)

-- another row behind the last one
last_changed : (old new : List Node) (before : Option ℕ) (p : ℕ × ℕ) (ps : List (ℕ × ℕ)) (behind older : Option ℕ) (last : ℕ) (n : Node)
    → Leads old before (p ∷ ps) behind → AreListedOnce (p ∷ ps) → last_of (Some p.0) ps ≡ Some last → slice_get old last ≡ Some n → Changes old new last (node n.newer older n.size)
    → Leads new before (p ∷ ps) older
last_changed old new before p [] behind older last n leads once is_last had change =
    let same : p.0 ≡ last = cc in
    let n_is : n ≡ node before behind p.1 = cc in
    (ap (slice_get new) same ∙ change.changed ∙ ap (λ (m : Node). Some (node m.newer older m.size)) n_is, tt)
last_changed old new before p (q ∷ qs) behind older last n leads once is_last had change =
    let found = last_listed q qs in
    let same : found.0 ≡ last = cc in
    let listed : is_listed last (q ∷ qs) ≡ true = ap (λ r. is_listed r (q ∷ qs)) (sym same) ∙ found.2 in
    (change.others p.0 (apart_rows last p.0 (q ∷ qs) listed once.0) ∙ leads.0, last_changed old new (Some p.0) q qs behind older last n leads.1 once.1 is_last had change)

-- another row before the first one
first_changed : (old new : List Node) (before newer : Option ℕ) (p : ℕ × ℕ) (ps : List (ℕ × ℕ)) (behind : Option ℕ) (n : Node)
    → Leads old before (p ∷ ps) behind → AreListedOnce (p ∷ ps) → slice_get old p.0 ≡ Some n → Changes old new p.0 (node newer n.older n.size)
    → Leads new newer (p ∷ ps) behind
first_changed old new before newer p ps behind n leads once had change =
    let n_is : n ≡ node before (first_of ps behind) p.1 = cc in
    (change.changed ∙ ap (λ (m : Node). Some (node newer m.older m.size)) n_is, leads_else old new p.0 (node newer n.older n.size) (Some p.0) ps behind change once.0 leads.1)

-- ---- one of the two neighbours is set
-- what comes behind the last of some rows is set: the way ends there now, and the first of all is still the first
pub older_set : (old new : Links) (a : List (ℕ × ℕ)) (behind older : Option ℕ)
    → Leads old.nodes.items None a behind → AreListedOnce a → old.newest ≡ first_of a behind → SetsOlder old new (last_of None a) older
    → Leads new.nodes.items None a older × (new.newest ≡ first_of a older) × (new.oldest ≡ old.oldest) × (length new.nodes.items ≡ length old.nodes.items)
older_set old new [] behind older leads once newest set = (tt, set.1, set.2, ap (λ v. length v.items) set.0)
older_set old new (p ∷ ps) behind older leads once newest set =
    let found = last_listed p ps in
    let had = node_listed old.nodes.items None (p ∷ ps) behind found.0 leads found.2 in
    let now : SetsOlder old new (Some found.0) older = subst (λ at. SetsOlder old new at older) found.1 set in
    let change = now.0 had.0 had.1 in
    (last_changed old.nodes.items new.nodes.items None p ps behind older found.0 had.0 leads once found.1 had.1 change, now.1 ∙ newest, now.2, change.rows)

-- rows that are apart from those keep their way
pub older_set_else : (old new : Links) (a b : List (ℕ × ℕ)) (behind older before next : Option ℕ)
    → Leads old.nodes.items None a behind → ((q : ℕ) → is_listed q a ≡ true → is_listed q b ≡ false) → SetsOlder old new (last_of None a) older
    → Leads old.nodes.items before b next → Leads new.nodes.items before b next
older_set_else old new [] b behind older before next leads apart set other = subst (λ v. Leads v.items before b next) (sym set.0) other
older_set_else old new (p ∷ ps) b behind older before next leads apart set other =
    let found = last_listed p ps in
    let had = node_listed old.nodes.items None (p ∷ ps) behind found.0 leads found.2 in
    let now : SetsOlder old new (Some found.0) older = subst (λ at. SetsOlder old new at older) found.1 set in
    leads_else old.nodes.items new.nodes.items found.0 (node had.0.newer older had.0.size) before b next (now.0 had.0 had.1) (apart found.0 found.2) other

-- what comes before the first of some rows is set: the way begins there now, and the last of all is still the last
pub newer_set : (old new : Links) (before newer : Option ℕ) (b : List (ℕ × ℕ))
    → Leads old.nodes.items before b None → AreListedOnce b → old.oldest ≡ last_of before b → SetsNewer old new (first_of b None) newer
    → Leads new.nodes.items newer b None × (new.oldest ≡ last_of newer b) × (new.newest ≡ old.newest) × (length new.nodes.items ≡ length old.nodes.items)
newer_set old new before newer [] leads once oldest set = (tt, set.2, set.1, ap (λ v. length v.items) set.0)
newer_set old new before newer (p ∷ ps) leads once oldest set =
    let n = node before (first_of ps None) p.1 in
    let change = set.0 n leads.0 in
    (first_changed old.nodes.items new.nodes.items before newer p ps None n leads once leads.0 change, set.2 ∙ oldest, set.1, change.rows)

pub newer_set_else : (old new : Links) (before newer : Option ℕ) (a b : List (ℕ × ℕ)) (behind : Option ℕ)
    → Leads old.nodes.items before b None → ((q : ℕ) → is_listed q b ≡ true → is_listed q a ≡ false) → SetsNewer old new (first_of b None) newer
    → Leads old.nodes.items None a behind → Leads new.nodes.items None a behind
newer_set_else old new before newer a [] behind leads apart set other = subst (λ v. Leads v.items None a behind) (sym set.0) other
newer_set_else old new before newer a (p ∷ ps) behind leads apart set other =
    let n = node before (first_of ps None) p.1 in
    leads_else old.nodes.items new.nodes.items p.0 (node newer n.older n.size) None a behind (set.0 n leads.0) (apart p.0 (first_listed p ps)) other

-- ---- a row taken out
-- the node of a listed row has the last row before it and the first row behind it
pub here_is : (links : Links) (row : ℕ) (order : List (ℕ × ℕ)) (s : Splits row order) → IsInOrder links order
    → slice_get links.nodes.items row ≡ Some (node (last_of None s.before) (first_of s.behind None) s.here.1)
here_is links row order s holds =
    let leads : Leads links.nodes.items None (s.before ++ s.here ∷ s.behind) None = subst (λ l. Leads links.nodes.items None l None) s.is holds.leads in
    let second = leads_second links.nodes.items None s.before (s.here ∷ s.behind) None leads in
    ap (slice_get links.nodes.items) (sym s.row_is) ∙ second.0

-- once its neighbours name each other, the links hold the order without the row
pub taken_out : (old mid new : Links) (row : ℕ) (order : List (ℕ × ℕ)) (s : Splits row order) → IsInOrder old order
    → SetsOlder old mid (last_of None s.before) (first_of s.behind None)
    → SetsNewer mid new (first_of s.behind None) (last_of None s.before)
    → IsInOrder new (without row order) × (length new.nodes.items ≡ length old.nodes.items)
taken_out old mid new row order s holds sets_older sets_newer =
    let a = s.before in
    let b = s.behind in
    let leads : Leads old.nodes.items None (a ++ s.here ∷ b) None = subst (λ l. Leads old.nodes.items None l None) s.is holds.leads in
    let first = leads_first old.nodes.items None a (s.here ∷ b) None leads in
    let second = leads_second old.nodes.items None a (s.here ∷ b) None leads in
    let newest : old.newest ≡ first_of a (Some s.here.0) = holds.newest ∙ ap (λ l. first_of l None) s.is ∙ first_append a (s.here ∷ b) None in
    let oldest : old.oldest ≡ last_of (Some s.here.0) b = holds.oldest ∙ ap (last_of None) s.is ∙ last_append None a (s.here ∷ b) in
    let one = older_set old mid a (Some s.here.0) (first_of b None) first s.before_once newest sets_older in
    let kept = older_set_else old mid a b (Some s.here.0) (first_of b None) (Some s.here.0) None first s.apart sets_older second.1 in
    let two = newer_set mid new (Some s.here.0) (last_of None a) b kept s.behind_once (one.2 ∙ oldest) sets_newer in
    let apart : (q : ℕ) → is_listed q b ≡ true → is_listed q a ≡ false = λ q h. not_both q (is_listed q a) refl h in
    let stays = newer_set_else mid new (Some s.here.0) (last_of None a) a b (first_of b None) kept apart sets_newer one.0 in
    let lengths : length new.nodes.items ≡ length old.nodes.items = two.3 ∙ one.3 in
    let holds_now : IsInOrder new (a ++ b) = record {
      newest = two.2 ∙ one.1 ∙ sym (first_append a b None);
      oldest = two.1 ∙ sym (last_append None a b);
      leads = leads_both new.nodes.items None a b None stays two.0;
      once = s.rest_once;
      fit =
          let len = ap length s.is in
          let fit = holds.fit in
          omega (arith, len, fit, lengths, length-append a (s.here ∷ b), length-append a b);
    } in (subst (IsInOrder new) (sym s.rest) holds_now, lengths)
  where
    not_both : (q : ℕ) (c : Bool) → is_listed q s.before ≡ c → is_listed q s.behind ≡ true → c ≡ false
    not_both q true e h = sym h ∙ s.apart q e
    not_both q false e h = refl

-- ---- a row put in front
-- a row that isn't listed goes in front of all, with the node that says so
pub put_in_front : (old mid new : Links) (row size : ℕ) (order : List (ℕ × ℕ)) → IsInOrder old order → is_listed row order ≡ false → length order < length old.nodes.items
    → Changes old.nodes.items mid.nodes.items row (node None old.newest size) → mid.newest ≡ old.newest → mid.oldest ≡ old.oldest
    → SetsNewer mid new old.newest (Some row)
    → (after : Links) → after.nodes ≡ new.nodes → after.newest ≡ Some row → after.oldest ≡ new.oldest
    → IsInOrder after ((row, size) ∷ order) × (length after.nodes.items ≡ length old.nodes.items)
put_in_front old mid new row size order holds unlisted room change newest oldest sets_newer after nodes first last =
    let sets : SetsNewer mid new (first_of order None) (Some row) = subst (λ at. SetsNewer mid new at (Some row)) holds.newest sets_newer in
    let leads = leads_else old.nodes.items mid.nodes.items row (node None old.newest size) None order None change unlisted holds.leads in
    let two = newer_set mid new None (Some row) order leads holds.once (oldest ∙ holds.oldest) sets in
    let alone : Leads mid.nodes.items None ((row, size) ∷ []) (first_of order None) = (change.changed ∙ ap (λ at. Some (node None at size)) holds.newest, tt) in
    let apart : (q : ℕ) → is_listed q order ≡ true → is_listed q ((row, size) ∷ []) ≡ false = λ q h. not_row q (row == q) refl h in
    let stays = newer_set_else mid new None (Some row) ((row, size) ∷ []) order (first_of order None) leads apart sets alone in
    let lengths : length after.nodes.items ≡ length old.nodes.items = ap (λ v. length v.items) nodes ∙ two.3 ∙ change.rows in (
      record {
        newest = first;
        oldest = last ∙ two.1;
        leads = subst (λ v. Leads v.items None ((row, size) ∷ order) None) (sym nodes) (stays.0, two.0);
        once = (unlisted, holds.once);
        fit = omega (arith, lengths, room);
      },
      lengths,
    )
  where
    not_row : (q : ℕ) (c : Bool) → (row == q) ≡ c → is_listed q order ≡ true → (if c then true else false) ≡ false
    not_row q true e h = let same : row ≡ q = grind (arith, e) in absurd (true≢false (sym h ∙ ap (λ r. is_listed r order) (sym same) ∙ unlisted))
    not_row q false e h = refl

-- ---- what `unlink` needs
-- what the node that is read of a listed row says
pub record AtRow (links : Links) (row : ℕ) (n : Node) : Type 0 where
  pub at : Splits row (order_of links)
  pub newer : n.newer ≡ last_of None at.before
  pub older : n.older ≡ first_of at.behind None
  pub size : n.size ≡ at.here.1
  pub newer_within : (other : ℕ) → n.newer ≡ Some other → other < length links.nodes.items
  pub older_within : (other : ℕ) → n.older ≡ Some other → other < length links.nodes.items

-- a listed row is within the vector
pub row_within : (links : Links) (row : ℕ) → IsInOrder links (order_of links) → is_listed row (order_of links) ≡ true → row < length links.nodes.items
row_within links row holds listed =
    let n = node_listed links.nodes.items None (order_of links) None row holds.leads listed in slice_get_within links.nodes.items row n.0 n.1

-- the last of some rows is listed
last_is_listed : (last : ℕ) (order : List (ℕ × ℕ)) → last_of None order ≡ Some last → is_listed last order ≡ true
last_is_listed last [] is = cc
last_is_listed last (p ∷ ps) is =
    let found = last_listed p ps in
    let same : found.0 ≡ last = cc in
    ap (λ r. is_listed r (p ∷ ps)) (sym same) ∙ found.2

-- the first of some rows is listed
first_is_listed : (first : ℕ) (order : List (ℕ × ℕ)) → first_of order None ≡ Some first → is_listed first order ≡ true
first_is_listed first [] is = cc
first_is_listed first (p ∷ ps) is =
    let same : p.0 ≡ first = cc in
    ap (λ r. is_listed r (p ∷ ps)) (sym same) ∙ first_listed p ps

pub at_row : (links : Links) (row : ℕ) (n : Node) → IsInOrder links (order_of links) → is_listed row (order_of links) ≡ true → n ≡ get_or links.nodes.items row n → AtRow links row n
at_row links row n holds listed read =
    let order = order_of links in
    let s = splits row order holds.once listed in
    let is = here_is links row order s holds in
    let had : n ≡ node (last_of None s.before) (first_of s.behind None) s.here.1 = read ∙ get_or_from_slice_get links.nodes.items row _ n is in
    let newer : n.newer ≡ last_of None s.before = ap (λ (m : Node). m.newer) had in
    let older : n.older ≡ first_of s.behind None = ap (λ (m : Node). m.older) had in record {
      at = s;
      newer = newer;
      older = older;
      size = ap (λ (m : Node). m.size) had;
      newer_within = λ other e.
          let listed_before = last_is_listed other s.before (sym newer ∙ e) in
          row_within links other holds (ap (is_listed other) s.is ∙ listed_in_first other s.before (s.here ∷ s.behind) listed_before);
      older_within = λ other e.
          let listed_behind_it = listed_behind other s.here s.behind (first_is_listed other s.behind (sym older ∙ e)) in
          row_within links other holds (ap (is_listed other) s.is ∙ listed_in_second other s.before (s.here ∷ s.behind) listed_behind_it);
    }

-- the call's steps, by what the node said
pub unlinked : (old mid new : Links) (row : ℕ) (n : Node) → IsInOrder old (order_of old) → AtRow old row n
    → SetsOlder old mid n.newer n.older → SetsNewer mid new n.older n.newer
    → IsInOrder new (without row (order_of old)) × (length new.nodes.items ≡ length old.nodes.items) × (only row (order_of old) ≡ (row, n.size) ∷ [])
unlinked old mid new row n holds at sets_older sets_newer =
    let s = at.at in
    let one : SetsOlder old mid (last_of None s.before) (first_of s.behind None) = subst (λ x. SetsOlder old mid x (first_of s.behind None)) at.newer (subst (λ x. SetsOlder old mid n.newer x) at.older sets_older) in
    let two : SetsNewer mid new (first_of s.behind None) (last_of None s.before) = subst (λ x. SetsNewer mid new x (last_of None s.before)) at.older (subst (λ x. SetsNewer mid new n.older x) at.newer sets_newer) in
    let out = taken_out old mid new row (order_of old) s holds one two in
    let same : (s.here.0, s.here.1) ≡ (row, n.size) = λ i. (s.row_is i, sym at.size i) in
    (out.0, out.1, s.alone ∙ ap (λ p. p ∷ []) same)

-- ---- a row more
-- nodes behind the others change no way
pub leads_more : (nodes more : List Node) (before : Option ℕ) (order : List (ℕ × ℕ)) (behind : Option ℕ) → Leads nodes before order behind → Leads (nodes ++ more) before order behind
leads_more nodes more before [] behind leads = tt
leads_more nodes more before (p ∷ ps) behind leads = (slice_get_more nodes p.0 leads.0, leads_more nodes more (Some p.0) ps behind leads.1)
  where
    slice_get_more : {n : Node} (nodes : List Node) (row : ℕ) → slice_get nodes row ≡ Some n → slice_get (nodes ++ more) row ≡ Some n
    slice_get_more [] row is = cc
    slice_get_more (m ∷ ms) zero is = is
    slice_get_more (m ∷ ms) (suc row) is = slice_get_more ms row is

pub grown : (old new : Links) (more : List Node) → AreSound old → new.nodes.items ≡ old.nodes.items ++ more → new.newest ≡ old.newest → new.oldest ≡ old.oldest → IsInOrder new (order_of old)
grown old new more holds items newest oldest = record {
  newest = newest ∙ holds.newest;
  oldest = oldest ∙ holds.oldest;
  leads = subst (λ nodes. Leads nodes None (order_of old) None) (sym items) (leads_more old.nodes.items more None (order_of old) None holds.leads);
  once = holds.once;
  fit = let fit = holds.fit in omega (arith, fit, ap length items, length-append old.nodes.items more);
}
