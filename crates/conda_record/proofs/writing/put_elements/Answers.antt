use Rattle.std.proofs.Common.{◌∙◌, ap, ℕ, ◌++◌, List}
use Rattle.mp_codec.specs.Writing.{str_bytes}
use Rattle.conda_record.specs.Writing.{AreText}
use Rattle.mp_codec.proofs.AppendLemmas.{one_more, all_more}
use Rattle.conda_record.proofs.writing.put_elements.Goals as goal

pub loop-text-preserved : goal.loop-text-preserved
loop-text-preserved c = record {
  written = one_more str_bytes c.args.texts.now c.loop-text.text-index c.text-item.result c.args.out.now.items c.loop-text.out.items c.put_str.new.out.items c.loop-text-test.true c.text-item.is c.loop-text.invariant.written
      (c.in_ok-put_str.ensures.ok ∙ ap (λ (t : List ℕ). c.loop-text.out.items ++ str_bytes t) c.shown.ensures.same);
  texts = all_more AreText c.args.texts.now c.loop-text.text-index c.text-item.result c.loop-text-test.true c.text-item.is c.loop-text.invariant.texts c.shown.ensures.text;
}
