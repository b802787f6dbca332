use Rattle.std.proofs.Common.{◌≡◌, ℕ, ◌<◌, min, true, false, List, length, take, sym, ap, ◌∙◌, inl, inr, arith}
use Rattle.std.proofs.lemmas.List.{take_all}
use Rattle.std.proofs.lemmas.List.Kept.{IsNonDecreasingBy-filter}
use Rattle.std.proofs.lemmas.Bool.{cases_lt}
use Rattle.dated.proofs.Keeping.{kept_no, kept_yes, kept_all}
use Rattle.dated.proofs.row.keep.Goals as goal
use Rattle.dated.proofs.row.keep.Goals.{then-keeps, else-keeps}

-- a length past the slice is the slice's
row_end : {X : Type 0} (xs : List X) (i len : ℕ) → i ≡ min len (length xs) → take i xs ≡ take len xs
row_end {X} xs i len e =
    elim (cases_lt len (length xs)) [
      | inl h ↦ ap (λ (n : ℕ). take n xs) (omega arith)
      | inr h ↦ take_all i xs (omega arith) ∙ sym (take_all len xs h)
    ]

pub loop-i-preserved : goal.loop-i-preserved
loop-i-preserved g c =
    let lt : c.loop-i.i < length c.args.entries.now = omega arith in
    elim c.if-keeps.branch [
      | then-keeps w ↦
          let yes : g.K.Rule.keeps c.args.rule.now c.index-entries-i.result ≡ true = cc in
          simp (w.entries-is, w.kept-is) (kept_yes _ _ _ _ _ _ c.loop-i.invariant lt c.index-entries-i.is yes)
      | else-keeps w ↦
          let no : g.K.Rule.keeps c.args.rule.now c.index-entries-i.result ≡ false = cc in
          simp (w.entries-is, w.kept-is) (kept_no _ _ _ _ _ _ c.loop-i.invariant lt c.index-entries-i.is no)
    ]

pub returns : goal.returns
returns g c =
    let row = row_end c.args.entries.now c.loop-i.i c.args.len (omega arith) in
    let k = kept_all (g.K.Rule.keeps c.args.rule.now) c.args.entries.now c.loop-i.entries c.loop-i.kept c.loop-i.i c.args.len c.loop-i.invariant row in
    record {
      answer = k.0;
      entries = k.1;
      row = k.2;
      dates = λ up. rw k.2 (IsNonDecreasingBy-filter g.T.Dated.stamp (g.K.Rule.keeps c.args.rule.now) (take c.args.len c.args.entries.now) up);
    }
