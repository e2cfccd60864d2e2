-- Which bytes spell a value, where values stand in some bytes, and where they break off (MessagePack specification, "Formats").
use Rattle.std.specs.Prelude.{◌≡◌, ℕ, suc, ◌+◌, ◌<◌, List, [], ◌++◌, length, Ok, Err}
use Rattle.gateway_words.specs.Places.{Position, Between, end_of}
use Rattle.mp_codec.specs.declared.fault.FormatFault.{FormatFault}
use Rattle.mp_codec.specs.declared.fault.FaultKind.TheVariants.{Short, Reserved}
use Rattle.mp_codec.specs.declared.head.Head.{Head}
use Rattle.mp_codec.specs.Format.{head_at, payload_len, part_count}
use Rattle.mp_codec.specs.Value.{Value, value, Values, none, more, count}

-- bytes that spell a head, and nothing else
abbrev pub SpellsHead : Head → List ℕ → Type 0
SpellsHead h bytes = head_at bytes ≡ Ok (h, length bytes)

-- front, payload and so many parts are those of a value with this head
pub record IsNode (h : Head) (front payload : List ℕ) (parts : ℕ) : Type 0 where
  pub head : SpellsHead h front
  pub payload_len : length payload ≡ payload_len h
  pub part_count : parts ≡ part_count h

abbrev mutual
  -- bytes that spell a value: its head, its payload, its parts
  pub Spells : Value → List ℕ → Type 0
  Spells (value h payload parts) bytes =
      (front body : List ℕ) × IsNode h front payload (count parts) × SpellsAll parts body × (bytes ≡ front ++ (payload ++ body))

  -- bytes that spell values, one behind the other
  pub SpellsAll : Values → List ℕ → Type 0
  SpellsAll none bytes = bytes ≡ []
  SpellsAll (more v vs) bytes = (one others : List ℕ) × Spells v one × SpellsAll vs others × (bytes ≡ one ++ others)

-- ---- where values stand

-- the head that stands here, and there is the position behind it
pub record HeadLies (h : Head) (here there : Position) : Type 0 where
  pub bytes : List ℕ
  pub spelled : SpellsHead h bytes
  pub between : Between bytes here there

-- a head and its payload that stand here, and there is the position behind them
pub record Begins (h : Head) (payload : List ℕ) (here there : Position) : Type 0 where
  pub front : List ℕ
  pub head : SpellsHead h front
  pub payload_len : length payload ≡ payload_len h
  pub between : Between (front ++ payload) here there

-- the value that stands here, and there is the position behind it
pub record Lies (v : Value) (here there : Position) : Type 0 where
  pub bytes : List ℕ
  pub spelled : Spells v bytes
  pub between : Between bytes here there

-- ---- where values break off

-- the bytes end within a value that stands here or behind
abbrev pub short : Position → FormatFault
short here = record { at = end_of here; kind = Short }

-- 0xc1 stands here
abbrev pub reserved : Position → FormatFault
reserved here = record { at = here.at; kind = Reserved }

-- one of so many values that should stand from here on breaks off, behind whole ones: the bytes end within it, or 0xc1 stands in its place or in that of a value in it
pub data Breaks : ℕ → Position → FormatFault → Type 0 where
  short_head : {n : ℕ} {here : Position} → head_at here.left ≡ Err Short → Breaks (suc n) here (short here)
  reserved_head : {n : ℕ} {here : Position} → head_at here.left ≡ Err Reserved → Breaks (suc n) here (reserved here)
  short_payload : {n : ℕ} {here : Position} {h : Head} {k : ℕ} → head_at here.left ≡ Ok (h, k)
      → length here.left < k + payload_len h → Breaks (suc n) here (short here)
  in_part : {n : ℕ} {here there : Position} {f : FormatFault} {h : Head} {payload : List ℕ} → Begins h payload here there
      → Breaks (part_count h) there f → Breaks (suc n) here f
  in_later : {n : ℕ} {here there : Position} {f : FormatFault} {v : Value} → Lies v here there
      → Breaks n there f → Breaks (suc n) here f
