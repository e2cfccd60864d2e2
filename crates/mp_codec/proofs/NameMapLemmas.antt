-- A map whose keys are names is read right: what is known of the names in front.
use Rattle.std.proofs.Common.{◌≡◌, sym, ◌∙◌, ap, refl, ℕ, ◌⊎◌, inl, inr, Bool, true, cond, List, [], ◌∷◌, ◌++◌, map, arith}
use Rattle.std.specs.Prelude.{Option, Some, Ok, Err}
use Rattle.std.specs.Str.{is_utf8}
use Rattle.gateway_words.specs.Places.{Position}
use Rattle.gateway_words.specs.Reading.{◌>>=◌}
use Rattle.mp_codec.specs.declared.fault.FormatFault.{FormatFault}
use Rattle.mp_codec.specs.declared.fault.FaultKind.TheVariants as kind
use Rattle.mp_codec.specs.Value.{Value, Pairs, str_of}
use Rattle.mp_codec.specs.Spelling.{Lies}
use Rattle.mp_codec.specs.Fault.{Faults, fault_here, TextFault}
use Rattle.mp_codec.specs.Keys.{has_key}
use Rattle.mp_codec.specs.Maps.{Read, text_from}
use Rattle.mp_codec.specs.Names.{RepeatedName, again, new_name_from}
use Rattle.mp_codec.proofs.JudgingLemmas.{StandBehind, JudgesOne}
use Rattle.mp_codec.proofs.LeafLemmas.{IsText, text_judged, text_behind, text_clean}
use Rattle.mp_codec.proofs.MapLemmas.{guarded}

-- each key of the pairs is a str
abbrev pub AllStrs : Pairs → Type 0
AllStrs [] = Unit {0}
AllStrs (p ∷ ps) = ((name : List ℕ) × (str_of p.0 ≡ Some name)) × AllStrs ps

pub strs_more : (front : Pairs) (key v : Value) (name : List ℕ) → AllStrs front → str_of key ≡ Some name → AllStrs (front ++ (key, v) ∷ [])
strs_more [] key v name strs e = ((name, e), tt)
strs_more (p ∷ ps) key v name strs e = (strs.0, strs_more ps key v name strs.1 e)

pub map_more : {A B : Type 0} (f : A → B) (front : List A) (x : A) → map f (front ++ x ∷ []) ≡ map f front ++ f x ∷ []
map_more f [] x = refl
map_more {A} {B} f (y ∷ ys) x = ap (λ (rest : List B). f y ∷ rest) (map_more f ys x)

-- the key is this name
abbrev pub IsName : List ℕ → Value → Type 0
IsName name v = str_of v ≡ Some name

-- a name that stands again, taken apart
record AgainName (front : Pairs) (here : Position) (f : FormatFault) : Type 0 where
  key : Value
  there : Position
  name : List ℕ
  lies : Lies key here there
  str : str_of key ≡ Some name
  utf8 : is_utf8 name ≡ true
  met : has_key name front ≡ true
  is : f ≡ fault_here kind.Repeated here

again_of : {front : Pairs} {here : Position} {f : FormatFault} → RepeatedName front here f → AgainName front here f
again_of (again {there = there} {key = key} {name = name} l s u m) = record { key = key; there = there; name = name; lies = l; str = s; utf8 = u; met = m; is = refl }

-- what may be wrong with a name
abbrev pub NameFault : Pairs → Faults
NameFault front here f = TextFault here f ⊎ RepeatedName front here f

pub names_behind : (front : Pairs) → StandBehind (NameFault front)
names_behind front here f (inl p) = text_behind here f p
names_behind front here f (inr p) = let a : AgainName front here f = again_of p in let at : f.at ≡ here.at = ap (λ (f : FormatFault). f.at) a.is in omega arith

-- a name is judged where the names that were met are those in front
pub name_judged : (met : List ℕ → Bool) (front : Pairs) (here : Position) → ((name : List ℕ) → met name ≡ has_key name front)
    → JudgesOne (NameFault front) IsName here (new_name_from met here)
unfolding new_name_from
name_judged met front here are =
    guarded TextFault (NameFault front) IsText IsName kind.Repeated here met (λ name. name)
    (λ f p. inl p)
    (λ name v there l is bad. inr (again l is.0 is.1 (sym (are name) ∙ bad)))
    (λ f. elim [
      | inl p ↦ inl p
      | inr p ↦
          let a : AgainName front here f = again_of p in
          inr (record {
            value = a.key;
            there = a.there;
            lies = a.lies;
            is = a.is;
            bad_value = λ name is. let both : ◌≡◌ {A = Option (List ℕ)} (Some name) (Some a.name) = sym is.0 ∙ a.str in let same : name ≡ a.name = cc in are name ∙ ap (λ (n : List ℕ). has_key n front) same ∙ a.met;
            clean = λ g q. text_clean a.key a.name here a.there a.lies a.str a.utf8 g q;
          })
    ])
    (λ name v is good. is.0)
    (text_from here) (text_judged here)

-- tests that agree give the same reading of a name
pub same_met : (f g : List ℕ → Bool) (here : Position) → ((q : List ℕ) → f q ≡ g q) → new_name_from f here ≡ new_name_from g here
unfolding new_name_from
same_met f g here same = go (text_from here)
  where
    go : (r : Read (List ℕ)) → (r >>= λ t. cond {A = Read (List ℕ)} (f t.0) (Err (fault_here kind.Repeated here)) (Ok (t.0, t.1)))
        ≡ (r >>= λ t. cond {A = Read (List ℕ)} (g t.0) (Err (fault_here kind.Repeated here)) (Ok (t.0, t.1)))
    go (Ok t) = ap (λ (b : Bool). cond {A = Read (List ℕ)} b (Err (fault_here kind.Repeated here)) (Ok (t.0, t.1))) (same t.0)
    go (Err e) = refl
