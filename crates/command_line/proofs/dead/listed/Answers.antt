use Rattle.std.proofs.Common.{◌≡◌, ◌∷◌, ◌++◌, ◌∙◌, [], ℕ, List, length, suc, refl, ap, sym, subst, arith}
use Rattle.std.specs.Prelude.{map}
use Rattle.index_model.specs.Row.{Row}
use Rattle.text_forms.specs.Spelling.{row_text}
use Rattle.text_forms.specs.Values.{AreRows}
use Rattle.command_line.proofs.dead.listed.Goals as goal

joined : (rows : List Row) (row : Row) (new : List (List ℕ)) → map row_text rows ++ (row_text row ∷ new) ≡ map row_text (rows ++ row ∷ []) ++ new
joined [] row new = refl
joined (first ∷ rows) row new = ap (λ (ws : List (List ℕ)). row_text first ∷ ws) (joined rows row new)

named_on : (all words new : List (List ℕ)) (rows pushed : List Row) (row : Row) → all ≡ map row_text rows ++ words → words ≡ row_text row ∷ new
    → pushed ≡ rows ++ row ∷ [] → all ≡ map row_text pushed ++ new
named_on all words new rows pushed row was next push =
    was ∙ ap (λ (ws : List (List ℕ)). map row_text rows ++ ws) next ∙ joined rows row new ∙ ap (λ (rs : List Row). map row_text rs ++ new) (sym push)

pub loop-row-smaller : goal.loop-row-smaller
loop-row-smaller c =
    let next : c.loop-row.words ≡ row_text c.in-Some.row ∷ c.next.new.self = c.next.ensures.found c.in-Some.row c.in-Some.is in
    let fewer : length c.loop-row.words ≡ suc (length c.next.new.self) = ap (λ (l : List (List ℕ)). length l) next in
    omega (arith, fewer)

pub loop-row-preserved : goal.loop-row-preserved
loop-row-preserved c =
    let next : c.loop-row.words ≡ row_text c.in-Some.row ∷ c.next.new.self = c.next.ensures.found c.in-Some.row c.in-Some.is in
    record {
      are = λ all. (subst AreRows next (c.loop-row.invariant.are all)).1;
      named = named_on c.args.words c.loop-row.words c.next.new.self c.loop-row.rows.items c.push.new.self.items c.in-Some.row c.loop-row.invariant.named next c.in_ok-push.ensures.items;
    }
