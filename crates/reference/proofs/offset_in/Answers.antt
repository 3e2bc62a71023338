-- `reference::offset_in` meets its contract. Assumes nothing.
use mathlib.Core.Path.{sym, ◌∙◌}
use Rattle.reference.proofs.Parts.{no_hyphen, no_east, no_north, both_digits}
use Rattle.reference.proofs.offset_in.Goals as goal

pub returns-then-h-ne45 : goal.returns-then-h-ne45
returns-then-h-ne45 c = no_hyphen _ _ _ _ c.if-h-ne45.true c.wrong_character.ensures

pub returns-then-not-is_offset : goal.returns-then-not-is_offset
returns-then-not-is_offset c = no_east _ _ _ _ c.if-h-ne45.false c.digit-u.ensures (sym c.if-not-is_offset.true ∙ c.is_offset.ensures) c.wrong_character-then-not-is_offset.ensures

pub returns-then-not-is_offset-2 : goal.returns-then-not-is_offset-2
returns-then-not-is_offset-2 c = no_north _ _ _ _ c.if-h-ne45.false c.digit-u.ensures (sym c.if-not-is_offset.false ∙ c.is_offset.ensures)
    c.digit-v.ensures (sym c.if-not-is_offset-2.true ∙ c.is_offset-2.ensures) c.wrong_character-then-not-is_offset-2.ensures

pub returns : goal.returns
returns c = both_digits _ _ _ _ c.if-h-ne45.false c.digit-u.ensures (sym c.if-not-is_offset.false ∙ c.is_offset.ensures) c.digit-v.ensures
    (sym c.if-not-is_offset-2.false ∙ c.is_offset-2.ensures)
