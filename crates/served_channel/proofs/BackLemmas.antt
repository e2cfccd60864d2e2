-- What was indexed comes back.
use Rattle.std.proofs.Common.{◌≡◌, ℕ, ◌<◌, ◌≤◌, Bool, true, false, cond, List, ◌∷◌, ◌++◌, length, map, get_or, nat_lt, Option, Some, None, refl, sym, ap, ◌∙◌, arith, codes}
use Rattle.std.specs.List.{All, flat_map}
use Rattle.std.specs.FinMap.{get}
use Rattle.std.specs.List.Sorted.{IsPermutation}
use Rattle.std.proofs.lemmas.Bool.Decides.{nat_tests}
use Rattle.std.proofs.lemmas.List.Sorted.{IsPermutation-trans}
use Rattle.gateway_words.specs.Causes.{Rose}
use Rattle.gateway_words.specs.Limits.{most_served_bytes}
use Rattle.digest_gate.specs.Digest.{digest_of}
use Rattle.digest_gate.proofs.DigestLemmas.{IsDigest-digest_of}
use Rattle.shard_file.specs.Rows.{Row}
use Rattle.shard_file.specs.Writing.{shard_bytes}
use Rattle.http_head.specs.Served.{ServedHasBody}
use Rattle.channel_store.specs.Store.{Files, found_in, found_within, whole, long}
use Rattle.channel_store.specs.Names.{is_place, is_served_name, served_path, index_name, subdir_of}
use Rattle.channel_indexer.specs.Groups.{Group, AreGroupsOf}
use Rattle.channel_indexer.specs.Indexing.{IsIndexed}
use Rattle.channel_indexer.specs.Puts.{files_with}
use Rattle.channel_indexer.specs.Shards.{index_put, index_puts, listed_of, shard_put, shard_file}
use Rattle.channel_indexer.specs.declared.index.Summary.{Summary}
use Rattle.shard_server.specs.Answer.{Answer, Answers, answer_over, answer_of_name, answer_of_found, status_unavailable}
use Rattle.served_channel.specs.Back.{path_of, file_answer, IsGiven, AreToldApart, ComesBack}
use Rattle.served_channel.proofs.NameLemmas.{path-served, index-served, shard-served}
use Rattle.served_channel.proofs.PutLemmas.{shard-there, index-there}

-- a file that isn't too long is found whole
found-whole : (files : Files) (name bytes : List ℕ) → get files name ≡ Some bytes → length bytes ≤ most_served_bytes → found_in files name most_served_bytes ≡ whole bytes
found-whole files name bytes there short =
    let fits : nat_lt most_served_bytes (length bytes) ≡ false = grind (arith, nat_tests, short) in
    ap (found_within most_served_bytes) there ∙ ap (λ b. cond b long (whole bytes)) fits

-- the answer over the files
over-is : (files : Files) (name bytes : List ℕ) → is_served_name name ≡ true → get files name ≡ Some bytes → length bytes ≤ most_served_bytes
    → answer_over files (codes "GET") (path_of name) ≡ file_answer bytes
over-is files name bytes served there short =
    ap (answer_of_name files (codes "GET")) (path-served name served)
    ∙ ap (answer_of_found (codes "GET")) (found-whole files name bytes there short)

-- a file that stands is given
given : ServedHasBody → (files : Files) (name bytes : List ℕ) → is_served_name name ≡ true → get files name ≡ Some bytes → length bytes ≤ most_served_bytes
    → IsGiven files name bytes
given good files name bytes served there short = record {
  got = λ before now answer says still. says.over (λ failed. still (says.unavailable failed).0) ∙ over-is files name bytes served there short;
  reply = good bytes short;
}

-- all that was put comes back
pub comes-back : ServedHasBody → ((rows : List Row) (groups : List Group) → AreGroupsOf rows groups → IsPermutation rows (flat_map (λ (g : Group). g.rows) groups))
    → (place : List ℕ) (told new : Files) (summary : Summary) → is_place place ≡ true
    → (done : IsIndexed place told (Some new) summary) → AreToldApart done.groups → ComesBack place done.stood done.groups new
comes-back good have place told new summary placed done apart =
    let files : new ≡ files_with (index_puts place done.groups) told = cc (done.files) in
    let says = done.indexable.says in
    record {
      index = given good new (index_name place) (index_put place (map listed_of done.groups)).bytes (index-served place placed)
          (ap (λ (f : Files). get f (index_name place)) files ∙ index-there place done.groups told) done.indexable.index_fit.short;
      lists = done.indexable.readings.index;
      shards = λ k g low.
          let other = get_or done.groups k g in
          given good new (shard_put place other).name (shard_bytes other.rows) (shard-served place (digest_of (shard_bytes other.rows)) placed (IsDigest-digest_of (shard_bytes other.rows)))
          (ap (λ (f : Files). get f (shard_put place other).name) files ∙ shard-there place done.groups told apart k g low) (done.indexable.fit k g low).short;
      says = done.indexable.readings.shards;
      records = IsPermutation-trans done.stood says.rows (flat_map (λ (g : Group). g.rows) done.groups) says.in_order.same (have says.rows done.groups says.grouped);
    }
