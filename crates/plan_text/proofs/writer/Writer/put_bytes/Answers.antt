-- The part of the buffer behind the place is written over.
use Rattle.std.proofs.Common.{arith, rules, refl}
use Rattle.plan_text.proofs.Putting.{put_copied}
use Rattle.plan_text.proofs.writer.Writer.put_bytes.Goals as goal

pub returns : goal.returns
returns c =
    record {
      same_buffer = refl;
      as_long = search rules;
      put = put_copied c.args.self.now.out.now c.args.self.now.at _ c.args.bytes.now c.copy_from_slice.new.self (omega arith) (omega arith) c.copy_from_slice.ensures.after;
    }
