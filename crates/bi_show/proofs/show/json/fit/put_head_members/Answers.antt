use Rattle.bi_show.proofs.show.json.fit.put_head_members.Goals as goal

pub returns : goal.returns
returns g c =
    rw (
      c.text_property.ensures,
      c.number_property.ensures,
      c.root-root.ensures.root,
      c.blob.ensures,
      c.from-size.ensures,
      c.total_size.ensures,
      c.blob-2.ensures,
      c.from-boot_cpu.ensures,
      c.boot_cpu.ensures,
      c.blob-3.ensures,
      c.shown_or_null.ensures,
      c.default_config.ensures,
    ) at
    c.put_members.ensures
