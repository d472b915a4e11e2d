use Rattle.std.proofs.Common.{◌≡◌, ◌+◌, ◌++◌, length, take, drop, decimal, sym, refl, ap, subst, arith}
use Rattle.std.proofs.lemmas.Fmt.{decimal_digit}
use Rattle.text.specs.Print.{Puts}
use Rattle.text.proofs.Puts.{put_at_parts}
use Rattle.text.proofs.cells.Line.put_number.Goals as goal

pub put-requires : goal.put-requires
put-requires c = omega (arith, ap length (decimal_digit c.args.n (omega arith)))

pub returns-then-n-lt10 : goal.returns-then-n-lt10
returns-then-n-lt10 c = subst (Puts c.args.self.now c.put.new.self) (sym (decimal_digit c.args.n (omega arith))) c.put.ensures

pub returns : goal.returns
returns c =
    let at = c.args.self.now.end in
    let old = c.args.self.now.place.now in
    let new = c.write_digits.new.buf in
    let start : c.write_digits.result ≡ at = omega (arith, c.width.ensures.value, c.write_digits.ensures.start) in
    record {
      same_reference = refl;
      written = put_at_parts old new at (at + c.width.result) (decimal c.args.n) (omega (arith, c.width.ensures.value))
          (subst (λ r. drop r new ≡ decimal c.args.n ++ drop (at + c.width.result) old) start c.write_digits.ensures.written)
          (subst (λ r. take r new ≡ take r old) start c.write_digits.ensures.before);
      end = ap (λ n. at + n) c.width.ensures.value;
    }
