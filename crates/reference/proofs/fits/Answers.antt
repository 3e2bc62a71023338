-- `reference::fits` meets its contract. Assumes nothing.
use Rattle.std.proofs.Common.{rules}
use mathlib.Core.Path.{◌∙◌, ap}
use mir.Syntax.{w32}
use mir.Facts.{to_z-of_z}
use Rattle.grid.specs.Units.{index}
use Rattle.reference.proofs.Parts.{fit_coarse, fit_fine}
use Rattle.reference.proofs.fits.Goals as goal

pub returns-then-c-ge5 : goal.returns-then-c-ge5
returns-then-c-ge5 c = fit_fine c.args.c c.if-c-ge5.true (c.outward.ensures ∙ ap index (to_z-of_z {w = w32} {z = c.args.c.south} (search rules)))

pub returns-else-c-ge5 : goal.returns-else-c-ge5
returns-else-c-ge5 c = fit_coarse c.args.c c.if-c-ge5.false
