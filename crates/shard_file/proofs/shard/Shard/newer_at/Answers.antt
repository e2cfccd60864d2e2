use Rattle.std.proofs.Common.{◌≡◌, refl, sym, ◌∙◌, ap, ℕ, ◌+◌, ◌<◌, ◌++◌, ltb, true, false, Bool, arith}
use Rattle.std.specs.List.{slice_get}
use Rattle.std.proofs.lemmas.Bool.{ltb-true, ltb-false}
use Rattle.shard_file.specs.Twin.{is_newer, newer_ending, row_passes}
use Rattle.shard_file.proofs.TwinLemmas.{position_found, position_none}
use Rattle.shard_file.proofs.shard.Shard.newer_at.Goals as goal

pub loop-i-init : goal.loop-i-init
loop-i-init c = λ k lt. c.first_from-first.ensures c.args.name.now k lt

pub loop-i-preserved : goal.loop-i-preserved
loop-i-preserved c = λ k lt. go k lt (ltb k c.loop-i.i) refl
  where
    go : (k : ℕ) → k < c.loop-i.i + 1 → (b : Bool) → ltb k c.loop-i.i ≡ b → row_passes (is_newer (c.args.stem.now ++ newer_ending) c.args.name.now) (slice_get c.args.self.now.rows k) ≡ false
    go k lt true e = c.loop-i.invariant k (ltb-true _ _ e)
    go k lt false e =
        let ge = ltb-false k c.loop-i.i e in
        let same : k ≡ c.loop-i.i = omega (arith, lt, ge) in
        ap (λ (j : ℕ). row_passes (is_newer (c.args.stem.now ++ newer_ending) c.args.name.now) (slice_get c.args.self.now.rows j)) same
        ∙ sym c.is_newer.ensures ∙ c.if-is_newer.false

pub returns-then-is_newer : goal.returns-then-is_newer
returns-then-is_newer c =
    sym (position_found (is_newer (c.args.stem.now ++ newer_ending) c.args.name.now) c.args.self.now.rows c.loop-i.i
    (sym c.is_newer.ensures ∙ c.if-is_newer.true) c.loop-i.invariant)

pub returns : goal.returns
returns c = sym (position_none (is_newer (c.args.stem.now ++ newer_ending) c.args.name.now) c.args.self.now.rows (λ k. go k (ltb k c.loop-i.i) refl))
  where
    go : (k : ℕ) → (b : Bool) → ltb k c.loop-i.i ≡ b → row_passes (is_newer (c.args.stem.now ++ newer_ending) c.args.name.now) (slice_get c.args.self.now.rows k) ≡ false
    go k true e = c.loop-i.invariant k (ltb-true _ _ e)
    go k false e = let a = ltb-false k c.loop-i.i e in let b = c.loop-i-test.false in c.first_behind-end.ensures c.args.name.now k (omega (arith, a, b))
