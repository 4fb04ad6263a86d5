use mathlib.Core.Path.{ap, ◌∙◌}
use Rattle.abi.specs.declared.marker_words.MarkerWords.{MarkerWords}
use Rattle.abi.specs.MarkerWords.{markers_in}
use Rattle.abi.specs.MarkerLookup.{lookup}
use Rattle.abi.proofs.marker_lookup.LookupLaws.{unpacked-same}
use Rattle.host.proofs.export_markers.tivembo_marker_position.Goals as goal

-- unpacked markers answer for the records
pub returns : goal.returns
returns c =
    let a = c.args in
    c.look_up_words.ensures
    ∙ ap (λ (m : MarkerWords). lookup (markers_in m) a.rules a.text.now a.name.now) c.unpack-c.ensures
    ∙ unpacked-same a.markers.now a.rules a.text.now a.name.now
