use Rattle.std.proofs.Common.{◌≡◌, ◌*◌, length, ap, ◌∙◌, rules}
use Rattle.sources.specs.Source.{part, Lies}
use Rattle.std.specs.Option.{option_map}
use Rattle.classes.specs.Column.{Column, decoded}
use Rattle.elf.specs.Object.{Object}
use Rattle.elf.specs.Opened.{meaning}
use Rattle.elf.proofs.Table.{lies-true, looked}
use Rattle.elf.proofs.file.ElfFile.look.Given as given
use Rattle.elf.proofs.file.ElfFile.look.Goals as goal

-- a stored header has the size that the class says
wide : (g : given.Over) → g.C.SectionHeader.Pod.width ≡ g.C.Class.column.header
wide g = g.met.C.SectionHeader.SectionHeader.size ∙ ap (λ (c : Column). c.header) g.met.C.Class.header

pub returns : goal.returns
returns g c =
    let o : Object = meaning g.R.ReadRef.bytes g.C.Class.column g.E.Endian.big c.args.self.now in
    let width = g.C.SectionHeader.Pod.width in
    let held = c.in_ok-headers.headers.bytes.now in
    let read : (held ≡ part o.bytes o.table (o.count * width)) × Lies (length o.bytes) o.table (o.count * width) = search rules in
    let said : c.map.result ≡ option_map (λ v. decoded g.C.SectionHeader.SectionHeader.column o.big (g.C.SectionHeader.Pod.stored v)) c.get.result = search rules in (
      lies-true o width (wide g) g.met.C.SectionHeader.Pod.some read.1,
      said ∙ looked o width (wide g) g.met.C.SectionHeader.Pod.some held read.0 read.1 c.args.index g.C.SectionHeader.SectionHeader.column g.met.C.Class.header g.C.SectionHeader.Pod.stored c.get.result c.get.ensures,
    )
